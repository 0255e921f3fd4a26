-- `page::table_page` meets its contract.
use Rattle.std.proofs.Common.{◌∙◌, arith}
use Rattle.text.specs.laws.Page.{filled, put-text}
use Rattle.book_text.proofs.page.table_page.Goals as goal

pub new-requires : goal.new-requires
new-requires c =
    let ss = c.requires.2 in
    (omega arith, (omega arith, filled 2048 (c.put_table-len.ensures.puts ss.0 ss.1)))

pub returns : goal.returns
returns c = record { page = λ ss e. c.new.ensures ∙ put-text 2048 (c.put_table-len.ensures.puts ss e) }
