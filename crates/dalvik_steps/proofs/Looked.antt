-- What is left before a class at a place of the stack, by numbers.
use Rattle.std.proofs.Common.{◌≡◌, ℕ, ◌<◌, ◌≤◌, Bool, true, false, true≢false, List, length, drop, get_or, arith, ap, refl, sym, subst, ◌∙◌, ltb-true, lt-ltb, inl, inr}
use Rattle.std.specs.Prelude.{Option, Some, None, cond, nat_lt, slice_get}
use Rattle.std.proofs.lemmas.Bool.{cases_lt}
use Rattle.std.proofs.lemmas.Option.{slice_get_past, slice_get_read}
use Rattle.dalvik_state.specs.declared.state.Status.{Status}
use Rattle.dalvik_state.specs.declared.state.Waiting.{Waiting}
use Rattle.dalvik_state.specs.declared.state.Waiting.TheVariants as waiting
use Rattle.dalvik_steps.specs.Turns.{is_initialiser, LeftAt, Looks}
use Rattle.dalvik_steps.proofs.Turning.{nothing_more}

pub looks_none : (statuses : List Status) (more : ℕ) (o : Option Waiting) → is_initialiser o ≡ false → Looks statuses more o None
looks_none statuses more None e = refl
looks_none statuses more (Some (waiting.Method f)) e = refl
looks_none statuses more (Some (waiting.Initialiser class above next)) e = absurd (true≢false e)
looks_none statuses more (Some (waiting.Ending class)) e = refl
looks_none statuses more (Some (waiting.Outside owes pending)) e = refl

-- the place where what is left begins
pub left_place : (above left : List ℕ) (at count : ℕ) (rest : Option ℕ) → drop at above ≡ left → count ≡ length above → rest ≡ cond (nat_lt at count) (Some at) None → LeftAt above left rest
left_place above left at count rest e n h = subst (LeftAt above left) (sym h) (by (nat_lt at count) refl)
  where
    by : (b : Bool) → nat_lt at count ≡ b → LeftAt above left (cond b (Some at) None)
    by true t = (e, (let low = ltb-true at count t in omega (arith, low, n)))
    by false t = elim (cases_lt at count) [
      | inl low ↦ absurd (true≢false (sym (lt-ltb at count low) ∙ t))
      | inr high ↦ (let all : length above ≤ at = omega (arith, high, n) in sym e ∙ nothing_more at above all)
    ]

-- what stands at a place
pub item_at : {X : Type 0} (xs ys : List X) (i : ℕ) (x : X) → ys ≡ xs → x ≡ get_or ys i x → i < length ys → slice_get xs i ≡ Some x
item_at xs ys i x e is low = subst (λ zs. slice_get zs i ≡ Some x) e (slice_get_read ys (length ys) i x refl low is)

pub looked_at : (xs ys : List Waiting) (i : ℕ) (x y : Waiting) → ys ≡ xs → x ≡ get_or ys i x → i < length ys → x ≡ y → slice_get xs i ≡ Some y
looked_at xs ys i x y e is low same = item_at xs ys i x e is low ∙ ap (λ (z : Waiting). Some z) same

pub looked_past : (xs ys : List Waiting) (i : ℕ) → ys ≡ xs → length ys ≤ i → slice_get xs i ≡ None
looked_past xs ys i e high = subst (λ (zs : List Waiting). slice_get zs i ≡ None) e (slice_get_past ys i high)
