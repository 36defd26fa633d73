-- A callee that the law admits, and what stands for a call of it: the premises can be met.
use Rattle.std.proofs.Common.{◌≡◌, ℕ, zero, suc, ◌+◌, ◌-◌, ◌<◌, ◌≤◌, Bool, true, false, true≢false, List, [], ◌∷◌, refl, sym, ap, ◌∙◌, subst, arith}
use Rattle.std.specs.Prelude.{Option, Some, None, nat_eq, Contains}
use Rattle.std.specs.List.{list_all}
use Rattle.std.proofs.lemmas.Bool.{eqb-true}
use Rattle.lemmas.proofs.Options.{none_some, some_same}
use Rattle.dalvik_defs.specs.declared.forms.Form.{Form}
use Rattle.pass_defs.specs.Bare.{reads, writes}
use Rattle.pass_defs.specs.Walks.{form_at, onward, caught, IsReadAt, Here, Onward, Caught}
use Rattle.program_laws.specs.Results.{gives_result, takes_none}
use Rattle.program_laws.specs.Alike.{gets_void}
use Rattle.inline_law.specs.Inlining.{PassesNone}
use Rattle.inline_law.specs.Sound.{IsSoundCallee}
use Rattle.inline_law.specs.Examples.{five, gives, body, caller_key, callee}
use Rattle.inline_law.proofs.Ways.{in_one}

both_forms : (P : ℕ → Form → Type 0) → P 0 five → P 1 gives → (n : ℕ) (x : Form) → form_at body n ≡ Some x → P n x
both_forms P a b zero x e = subst (P 0) (some_same five x e) a
both_forms P a b (suc zero) x e = subst (P 1) (some_same gives x e) b
both_forms P a b (suc (suc n)) x e = none_some x e

no_one : (n : ℕ) {A : Type 0} → n ≡ 0 → n ≡ 1 → A
no_one n e d = let f : ⊥ = omega (arith, e, d) in absurd f

none_in : (m : ℕ) {A : Type 0} → Contains [] m → A
none_in m (k, l, q) = let f : ⊥ = omega (arith, l) in absurd f

abbrev Reads : ℕ → ℕ → Type 0
Reads r n = (n ≡ 0 → ⊥) × (n ≡ 1 → nat_eq r 0 ≡ true)

reads_own : (r n k : ℕ) → IsReadAt body r n k → Reads r n
reads_own r n _ (Here _ x e d) = both_forms (λ n x. reads x r ≡ true → Reads r n) (λ d. absurd (true≢false (sym d))) (λ d. (λ q. no_one 1 q refl, λ q. d)) n x e d
reads_own r n k (Onward _ m _ x e w i rest) = both_forms (λ n x. writes x r ≡ false → Contains (onward x n) m → Reads r m → Reads r n)
    (λ w i h. absurd (true≢false (sym (h.1 (sym (in_one 1 m i))) ∙ w))) (λ w i h. none_in m i) n x e w i (reads_own r m k rest)
reads_own r n k (Caught _ m _ x e i rest) = both_forms (λ n x. Contains (caught body x n) m → Reads r n) (λ i. none_in m i) (λ i. none_in m i) n x e i

pub is_sound : IsSoundCallee caller_key callee
is_sound = record {
  class = refl;
  unguarded = refl;
  ins = omega arith;
  passes = PassesNone;
  passes_all = refl;
  in_place = record {
    onward = both_forms (λ n x. gives_result x ≡ false → list_all (takes_none body) (onward x n) ≡ true) (λ g. refl) (λ g. refl);
    caught = both_forms (λ n x. list_all (takes_none body) (caught body x n) ≡ true) refl refl;
  };
  begins = refl;
  reads_room = λ n x r e. both_forms (λ n x. reads x r ≡ true → r < 1) (λ d. absurd (true≢false (sym d))) (λ d. let q = eqb-true r 0 d in omega (arith, q)) n x e;
  writes_room = λ n x r e. both_forms (λ n x. writes x r ≡ true → r < 1) (λ d. let q = eqb-true r 0 d in omega (arith, q)) (λ d. absurd (true≢false (sym d))) n x e;
  voids = both_forms (λ n x. gets_void x ≡ false) refl refl;
  arguments = λ r h. absurd ((reads_own r 0 h.0 h.1).0 refl);
}
