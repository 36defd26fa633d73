use Rattle.std.proofs.Common.{◌≡◌, ◌∙◌, ℕ, suc, ◌+◌, ◌-◌, ◌<◌, ◌∷◌, true, false, length, drop, ap, sym, subst, arith}
use Rattle.std.specs.Prelude.{slice_get}
use Rattle.dalvik_state.specs.States.{HasSpace}
use Rattle.dalvik_state.specs.declared.datum.Datum.{Datum}
use Rattle.dalvik_steps.specs.Falls.{noted, IsFalling}
use Rattle.dalvik_steps.proofs.Falling.{fall_noted, fall_past, not_noted, noted_inside, noted_there}
use Rattle.dalvik_steps.proofs.throwing.fall.Goals as goal

pub returns-then-is_noted-clause-falls : goal.returns-then-is_noted-clause-falls
returns-then-is_noted-clause-falls c = λ l steps script all to place r t low h.
    let old = c.args.state.now in
    let new = c.drop_top.new.state in
    let w = c.make_new-wrapper.new.world in
    let ws = c.args.wraps.now in
    let i = c.args.wrapped in
    let top = c.saturating_sub-top.result in
    let others = drop (suc i) ws in
    let is : top ≡ length old.stack.items - 1 = omega arith in
    let so : noted (slice_get ws i) top ≡ true = sym c.is_noted.ensures ∙ c.if-is_noted.true in
    let list : drop i ws ≡ (length old.stack.items - 1) ∷ others = noted_there ws i top so ∙ ap (λ (k : ℕ). k ∷ others) is in
    let inside : i < length ws = noted_inside ws i top so in
    let next : c.saturating_add.result ≡ suc i = omega (arith, inside) in
    let one = ap length list in
    let count : length (drop i ws) ≡ length others + 1 = omega (arith, one) in
    let space = c.make_new-wrapper.ensures.space (length others) (subst (HasSpace old.world) count h.space) in
    let first : HasSpace old.world 1 = (let s = h.space.space in record { space = omega (arith, s, count) }) in
    let f = fall_noted l r steps script all to place t old new w (drop i ws) others c.args.datum h low list (c.make_new-wrapper.ensures.heap first) space (c.make_new-wrapper.ensures.room 1 h.room) c.drop_top.ensures.drops in
    subst (λ (k : ℕ). IsFalling l steps script all to new (drop k ws) c.make_new-wrapper.result) (sym next)
    (subst (λ (d : Datum). IsFalling l steps script all to new others d) (sym c.make_new-wrapper.ensures.datum) f)

pub returns-else-is_noted-clause-falls : goal.returns-else-is_noted-clause-falls
returns-else-is_noted-clause-falls c = λ l steps script all to place r t low h.
    let old = c.args.state.now in
    let new = c.drop_top-else-is_noted.new.state in
    let ws = c.args.wraps.now in
    let i = c.args.wrapped in
    let top = c.saturating_sub-top.result in
    let is : top ≡ length old.stack.items - 1 = omega arith in
    let so : noted (slice_get ws i) top ≡ false = sym c.is_noted.ensures ∙ c.if-is_noted.false in
    fall_past l r steps script all to place t old new (drop i ws) c.args.datum h low c.drop_top-else-is_noted.ensures.drops (λ others e. not_noted ws i top others so (e ∙ ap (λ (k : ℕ). k ∷ others) (sym is)))
