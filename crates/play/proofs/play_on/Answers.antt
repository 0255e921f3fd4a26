-- `play_on` meets its contract: whether what the text prints fits picks the branch.
use Rattle.std.proofs.Common.{refl, sym, ◌∙◌}
use borrow.Author.Tests.{leb-false, leb-true}
use Rattle.text.specs.laws.Written.{short, written}
use Rattle.play.proofs.play_on.Goals as goal

pub returns-then-not-fits : goal.returns-then-not-fits
returns-then-not-fits g c = short _ _ _ refl (leb-false _ _ (sym c.fits.ensures ∙ c.if-not-fits.true))

pub put_played-requires : goal.put_played-requires
put_played-requires g c = (c.requires, leb-true _ _ (sym c.fits.ensures ∙ c.if-not-fits.false))

pub returns : goal.returns
returns g c = written _ _ _ refl c.put_played.ensures
