-- `decide::search` meets its contract.
use Rattle.std.proofs.Common.{◌≡◌, ℕ, zero, suc, ◌+◌, ◌-◌, ◌<◌, [], ◌∷◌, get_or, refl, arith}
use Rattle.decide.proofs.Down.{above_begins, above_more, above_found, above_over}
use Rattle.decide.proofs.search.Goals as goal

context_at : (i : ℕ) → i < 4 → get_or (3 ∷ 2 ∷ 1 ∷ 0 ∷ []) i 0 ≡ 4 - (i + 1)
context_at zero l = refl
context_at (suc zero) l = refl
context_at (suc (suc zero)) l = refl
context_at (suc (suc (suc zero))) l = refl
context_at (suc (suc (suc (suc i)))) l = absurd (omega arith)

pub loop-context-init : goal.loop-context-init
loop-context-init g c = λ matches t. above_begins c.requires.0 c.args.section matches

pub returns-in-Some : goal.returns-in-Some
returns-in-Some g c = λ matches t.
    rw (c.offset.ensures.0, c.size.ensures)
    (above_found c.args.section c.args.image.now matches (4 - c.loop-context.context-index) (4 - (c.loop-context.context-index + 1))
    (omega (arith, c.loop-context-test.true)) (context_at c.loop-context.context-index (omega (arith, c.loop-context-test.true)))
    (c.loop-context.invariant matches t) (c.in-Some.ensures.last matches t))

pub loop-context-preserved : goal.loop-context-preserved
loop-context-preserved g c = λ matches t.
    above_more c.args.section c.args.image.now matches (4 - c.loop-context.context-index) (4 - (c.loop-context.context-index + 1))
    (omega (arith, c.loop-context-test.true)) (context_at c.loop-context.context-index (omega (arith, c.loop-context-test.true)))
    (c.loop-context.invariant matches t) (c.in_default.ensures.last matches t)

pub returns : goal.returns
returns g c = λ matches t.
    above_over c.args.section c.args.image.now matches (4 - c.loop-context.context-index) (omega (arith, c.loop-context-test.false))
    (c.loop-context.invariant matches t)
