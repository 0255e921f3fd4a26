-- The lemmas by which functions are proved: a set for each, which the attribute of the function of its name names.
use Rattle.job.proofs.Bytes.{digits-bad, digits-end, digits-feed, digits-tab, digits_more, may-follow, field-bad, field-more, field_end}
use Rattle.std.proofs.Common.{ltb-true, ne_eqb, append_assoc, drop-drop}
use Rattle.job.proofs.Tags.{tagged-beyond, tagged-other, tagged-same, tagged-short, tagged-room}
use Rattle.std.proofs.lemmas.List.Edits.{sets, sets-eq}
use Rattle.std.proofs.lemmas.Slice.{between_is}
use Rattle.std.proofs.Math.Seq.{slice}
use borrow.Rule.Slice.PartMut.{put_mid}

pub ruleset digits = (digits-bad, digits-end, digits-feed, digits-tab, digits_more, may-follow)

pub ruleset number = (ltb-true, field-bad, field-more, field_end)

pub ruleset tagged = (ne_eqb, tagged-beyond, tagged-other, tagged-same, tagged-short)

pub ruleset sample_line = (tagged-room)

pub ruleset keep = (append_assoc, drop-drop, sets, sets-eq, between_is, slice, put_mid)
