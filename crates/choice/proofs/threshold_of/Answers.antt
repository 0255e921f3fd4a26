-- The table is the list of the T_l, computed from their rule.
use Rattle.std.proofs.Common.{◌≡◌, ◌≤◌, ◌-◌, ℕ, suc, ap, ◌∙◌, arith, get_or}
use Rattle.choice.specs.Threshold.{threshold, u, w}
use Rattle.integer.specs.RoundedUp.{rounded_up}
use Rattle.integer.specs.Tabulate.{tabulate}
use Rattle.integer.specs.laws.Tabulate.{get_d_tabulate}
use Rattle.choice.proofs.threshold_of.Goals as goal

entry : (l : ℕ) → 1 ≤ l → l ≤ 14 → get_or (tabulate 14 (λ k. threshold (suc k))) (l - 1) 0 ≡ threshold l
entry l h k =
    let back : suc (l - 1) ≡ l = omega arith in
    get_d_tabulate 14 (λ k. threshold (suc k)) (l - 1) 0 (omega arith) ∙ ap threshold back

pub returns : goal.returns
unfolding tabulate threshold rounded_up u w
returns c = entry c.args.l c.requires.0 c.requires.1
