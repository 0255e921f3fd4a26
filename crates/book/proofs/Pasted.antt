-- The library's lemmas on a list written into another, by which `put_counts` is proved.
use Rattle.std.proofs.Common.{append_assoc}
use Rattle.std.proofs.lemmas.List.Edits.{paste_all, sets-eq}
use Rattle.std.proofs.lemmas.Slice.{put_mid-paste}

pub ruleset writing = (put_mid-paste, paste_all, append_assoc, sets-eq)
