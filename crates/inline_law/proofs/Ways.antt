-- Where results are taken, and which positions a walk comes to.
use Rattle.std.proofs.Common.{◌≡◌, ℕ, zero, suc, ◌+◌, Bool, true, false, List, [], ◌∷◌, ◌++◌, refl, sym, ap, ◌∙◌, subst, arith, true≢false}
use Rattle.std.specs.Prelude.{Option, Some, None, is_some, not, find, ◌&&◌, Contains, map}
use Rattle.std.specs.Option.{option_and_then}
use Rattle.std.specs.List.{list_all}
use Rattle.std.proofs.lemmas.List.Elements.{Contains-append_left, Contains-append_right}
use Rattle.lemmas.proofs.Bools.{and_right}
use mathlib.Core.Bool.{cond}
use Rattle.dalvik_defs.specs.Names.{Text}
use Rattle.dalvik_defs.specs.Stack.{covers, handler_in, handler_at}
use Rattle.dalvik_defs.specs.declared.forms.Form.{Form}
use Rattle.dalvik_defs.specs.declared.forms.Form.TheVariants as form
use Rattle.dalvik_defs.specs.declared.program.NamedBody.{NamedBody}
use Rattle.dalvik_defs.specs.declared.program.NamedRegion.{NamedRegion}
use Rattle.dalvik_defs.specs.declared.program.NamedHandler.{NamedHandler}
use Rattle.pass_defs.specs.Bare.{may_throw, continues, targets}
use Rattle.pass_defs.specs.Inlined.{Callee}
use Rattle.pass_defs.specs.Quiet.{takes_result}
use Rattle.pass_defs.specs.Walks.{form_at, onward, caught, successors, next_position, handlers_at, handlers_of, listed, region_at, Walk, Stays as Arrives, Goes as Steps}
use Rattle.program_laws.specs.Results.{gives_result, takes_none, TakesInPlace}
use Rattle.program_laws.proofs.ChangedLists.{and_left}
use Rattle.inline_law.specs.Inlining.{Lives}

all_there : (p : ℕ → Bool) (l : List ℕ) (m : ℕ) → list_all p l ≡ true → Contains l m → p m ≡ true
all_there p [] m e (k, l, q) = let f : ⊥ = omega (arith, l) in absurd f
all_there p (x ∷ xs) m e (zero, l, q) = subst (λ z. p z ≡ true) q (and_left (p x) (list_all p xs) e)
all_there p (x ∷ xs) m e (suc k, l, q) = all_there p xs m (and_right (p x) (list_all p xs) e) (k, omega (arith, l), q)

pub untaken : (b : NamedBody) (m : ℕ) → takes_none b m ≡ true → takes_result (form_at b m) ≡ false
untaken b m e = by (takes_result (form_at b m)) e
  where
    by : (t : Bool) → not t ≡ true → t ≡ false
    by true e = absurd (true≢false (sym e))
    by false e = refl

-- what gives no result goes on to no MoveResult, and no handler is one
pub onward_untaken : (b : NamedBody) → TakesInPlace b → (n : ℕ) (x : Form) → form_at b n ≡ Some x → gives_result x ≡ false → (m : ℕ) → Contains (onward x n) m → takes_result (form_at b m) ≡ false
onward_untaken b h n x e g m i = untaken b m (all_there (takes_none b) (onward x n) m (h.onward n x e g) i)

pub caught_untaken : (b : NamedBody) → TakesInPlace b → (n : ℕ) (x : Form) → form_at b n ≡ Some x → (m : ℕ) → Contains (caught b x n) m → takes_result (form_at b m) ≡ false
caught_untaken b h n x e m i = untaken b m (all_there (takes_none b) (caught b x n) m (h.caught n x e) i)

pub in_one : (n m : ℕ) → Contains (n ∷ []) m → n ≡ m
in_one n m (zero, l, q) = q
in_one n m (suc k, l, q) = let f : ⊥ = omega (arith, l) in absurd f

-- what gives a result goes on to the next position alone
gives_next : (x : Form) (n m : ℕ) → gives_result x ≡ true → Contains (onward x n) m → n + 1 ≡ m
gives_next (form.FilledNewArray kind args) n m g i = in_one (n + 1) m i
gives_next (form.Invoke kind method args) n m g i = in_one (n + 1) m i
gives_next x n m g i = absurd (true≢false (sym g))

same_sucs : (n m : ℕ) → n + 1 ≡ m + 1 → n ≡ m
same_sucs n m e = omega (arith, e)

-- a walk from a form that isn't inlined comes to positions that stay
pub lives_onward : (b : NamedBody) (sites : ℕ → Option Callee) → TakesInPlace b → (n : ℕ) (x : Form) → form_at b n ≡ Some x → sites n ≡ None → (m : ℕ) → Contains (onward x n) m → Lives b sites m
lives_onward b sites h n x e none m i k q s = by (gives_result x) refl
  where
    by : (g : Bool) → gives_result x ≡ g → takes_result (form_at b m) ≡ false
    by false g = onward_untaken b h n x e g m i
    by true g = absurd (true≢false (sym s ∙ ap (λ j. is_some (sites j)) (sym (same_sucs n k (gives_next x n m g i ∙ q))) ∙ ap (λ o. is_some o) none))

pub lives_caught : (b : NamedBody) (sites : ℕ → Option Callee) → TakesInPlace b → (n : ℕ) (x : Form) → form_at b n ≡ Some x → (m : ℕ) → Contains (caught b x n) m → Lives b sites m
lives_caught b sites h n x e m i k q s = caught_untaken b h n x e m i
