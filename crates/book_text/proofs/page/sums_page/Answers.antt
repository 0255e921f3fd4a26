-- `page::sums_page` meets its contract: each field stands where the last one ended.
use Rattle.std.proofs.Common.{◌∙◌, arith, refl}
use Rattle.text.specs.laws.Page.{filled, put-text}
use Rattle.text.specs.laws.Put.{array-part}
use Rattle.book_text.proofs.Paging.{sums-text}
use Rattle.book_text.proofs.page.sums_page.Goals as goal

pub new-requires : goal.new-requires
new-requires c =
    let number = array-part c.put_byte-at.ensures {size = 2048} refl c.put_natural_field-at.ensures.puts in
    let channels = array-part number {size = 2048} refl c.put_naturals-at.ensures.puts in
    let pairs = array-part channels {size = 2048} refl c.put_cross-at.ensures.puts in
    (omega arith, (omega arith, filled 2048 (array-part pairs {size = 2048} refl c.put_byte.ensures)))

pub returns : goal.returns
returns c =
    let number = array-part c.put_byte-at.ensures {size = 2048} refl c.put_natural_field-at.ensures.puts in
    let channels = array-part number {size = 2048} refl c.put_naturals-at.ensures.puts in
    let pairs = array-part channels {size = 2048} refl c.put_cross-at.ensures.puts in
    c.new.ensures ∙ put-text 2048 (array-part pairs {size = 2048} refl c.put_byte.ensures) ∙ sums-text c.args.n c.args.t
