use Rattle.std.proofs.Common.{rules, ◌≡◌, ℕ, ◌<◌, ◌∙◌, List, ℤ, arith, w64, to_z, of_z}
use mir.Val.{SFits}
use Rattle.choice.specs.Widest.{widest}
use Rattle.integer.specs.laws.Word.{read_back, word}
use Rattle.turn.proofs.Back.{back-of}
use Rattle.turn.proofs.Columns.{Columns, column-read, columns-all, columns-more, no-column}
use Rattle.turn.proofs.Pass.{room}
use Rattle.turn.specs.Rotation.{first}
use Rattle.turn.specs.Size.{Small}
use Rattle.turn.specs.Turn.{at}
use Rattle.turn.specs.declared.pair.Rotation.{Rotation}
use Rattle.turn.proofs.turn_axes.Goals as goal

-- what an iteration reads
entry : (r : Rotation) (p q : ℕ) (v : List (List ℤ)) (j : ℕ) (v' : List (List ℤ)) → Columns r p q v j v' → Small v → j < 8 → (i : ℕ) → i < 8 →
    to_z w64 (of_z w64 (at v' i j)) ≡ at v i j
entry r p q v j v' c s l i h = rw (column-read r p q v j v' c l i h) (read_back _ (omega (arith, s.small i j)))

pub loop-j-init : goal.loop-j-init
loop-j-init c = no-column _ _ _ _ c.requires.5

pub turned-new_p-requires : goal.turned-new_p-requires
unfolding at
turned-new_p-requires c =
    let p = entry _ _ _ _ _ _ c.loop-j.invariant c.requires.4 (omega arith) c.args.p (omega arith) in
    let q = entry _ _ _ _ _ _ c.loop-j.invariant c.requires.4 (omega arith) c.args.q (omega arith) in (
      c.requires.3.positive,
      rw (p, q)
          (room c.args.r widest (at c.args.v.now c.args.p c.loop-j.j) (at c.args.v.now c.args.q c.loop-j.j) (c.requires.4.small c.args.p c.loop-j.j)
          (c.requires.4.small c.args.q c.loop-j.j) c.requires.3.first-pass),
    )

pub turned-new_q-requires : goal.turned-new_q-requires
unfolding at
turned-new_q-requires c =
    let p = entry _ _ _ _ _ _ c.loop-j.invariant c.requires.4 (omega arith) c.args.p (omega arith) in
    let q = entry _ _ _ _ _ _ c.loop-j.invariant c.requires.4 (omega arith) c.args.q (omega arith) in
    let back = (back-of _ _ c.requires.3 c.inverse-back.ensures).turns in (
      back.positive,
      rw (p, q)
          (room c.inverse-back.result widest (at c.args.v.now c.args.q c.loop-j.j) (at c.args.v.now c.args.p c.loop-j.j)
          (c.requires.4.small c.args.q c.loop-j.j) (c.requires.4.small c.args.p c.loop-j.j) back.first-pass),
    )

pub loop-j-preserved : goal.loop-j-preserved
unfolding at
loop-j-preserved c =
    let p = entry _ _ _ _ _ _ c.loop-j.invariant c.requires.4 (omega arith) c.args.p (omega arith) in
    let q = entry _ _ _ _ _ _ c.loop-j.invariant c.requires.4 (omega arith) c.args.q (omega arith) in
    let f : SFits w64 c.turned-new_p.result = search rules in
    let g : SFits w64 c.turned-new_q.result = search rules in
    columns-more _ _ _ _ _ _ c.loop-j.invariant (omega arith) c.requires.0 (omega arith) _ _
    (word f (c.turned-new_p.ensures ∙ (λ i. first c.args.r (p i) (q i))))
    (word g (c.turned-new_q.ensures ∙ (λ i. first (c.inverse-back.ensures i) (q i) (p i))))

pub returns : goal.returns
returns c =
    let e : c.loop-j.j ≡ c.args.n = omega arith in
    columns-all _ _ _ _ _ _ c.requires.0 c.requires.1 (rw e at c.loop-j.invariant)
