use Rattle.std.proofs.Common.{◌≡◌, ◌∙◌, ℕ, suc, ◌<◌, List, length, take, ap, sym, arith}
use Rattle.std.specs.Prelude.{Some, slice_get, slice_set}
use Rattle.std.proofs.lemmas.Option.{slice_get-get_or}
use Rattle.dalvik_lookups.proofs.Interned.{got_short}
use Rattle.dalvik_state.specs.declared.state.Waiting.{Waiting}
use Rattle.dalvik_steps.specs.Turns.{waits_at}
use Rattle.dalvik_steps.proofs.Stacked.{get_taken, set_taken}
use Rattle.dalvik_steps.proofs.starting.wait_on.Goals as goal

pub returns-then-place-len : goal.returns-then-place-len
returns-then-place-len c = λ w e.
    let old = c.args.stack.now.items in
    let place = c.args.place in
    let low : place < length old = got_short old place w e in
    let k : c.saturating_add.result ≡ suc place = omega (arith, low) in
    let items : c.truncate.new.self.items ≡ take (suc place) old = c.truncate.ensures.items ∙ ap (λ (n : ℕ). take n old) k in
    let there : slice_get c.truncate.new.self.items place ≡ Some w = ap (λ (xs : List Waiting). slice_get xs place) items ∙ get_taken old place w e in
    let inside : place < length c.truncate.new.self.items = got_short c.truncate.new.self.items place w there in
    let entry = c.index_mut.result.now in
    let read : slice_get c.truncate.new.self.items place ≡ Some entry = slice_get-get_or c.truncate.new.self.items place entry inside ∙ ap (λ (x : Waiting). Some x) (sym c.index_mut.ensures.value) in
    let both : Some entry ≡ Some w = sym read ∙ there in
    let same : entry ≡ w = cc in
    let v : c.wait_in.new.waiting ≡ waits_at c.args.next w = c.wait_in.ensures ∙ ap (waits_at c.args.next) same in
    (λ i. slice_set (items i) place (v i)) ∙ set_taken old place w (waits_at c.args.next w) e

pub returns-else-place-len : goal.returns-else-place-len
returns-else-place-len c = λ w e.
    let old = c.args.stack.now.items in
    let place = c.args.place in
    let low : place < length old = got_short old place w e in
    let k : c.saturating_add.result ≡ suc place = omega (arith, low) in
    let items : c.truncate.new.self.items ≡ take (suc place) old = c.truncate.ensures.items ∙ ap (λ (n : ℕ). take n old) k in
    let there : slice_get c.truncate.new.self.items place ≡ Some w = ap (λ (xs : List Waiting). slice_get xs place) items ∙ get_taken old place w e in
    let inside : place < length c.truncate.new.self.items = got_short c.truncate.new.self.items place w there in
    absurd (omega (arith, inside))
