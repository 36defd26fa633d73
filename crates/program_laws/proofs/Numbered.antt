-- What code says by number: instructions at the same positions that say the same.
use Rattle.std.proofs.Common.{◌≡◌, ℕ, suc, Bool, List, [], ◌∷◌, length, refl, sym, ap, ◌∙◌, arith}
use Rattle.std.specs.Prelude.{◌||◌, Some, map, slice_get}
use Rattle.std.specs.List.{list_any}
use Rattle.lemmas.proofs.Options.{some_same}
use Rattle.insn_set.specs.declared.form.Insn.{Insn}
use Rattle.program_model.specs.declared.body.Body.{Body}
use Rattle.program_model.specs.declared.program.Program.{Program}
use Rattle.dalvik_defs.specs.Naming.{form_of, body_of, named}
use Rattle.dalvik_defs.specs.declared.names.MethodKey.{MethodKey}
use Rattle.program_laws.specs.Said.{Said, said, SaysNoMore}

module _ (p : Program) (test : Said → Bool) where
  abbrev pub says : Insn → Bool
  says i = test (said (named p) (form_of p i))

  pub mapped : (xs : List Insn) → list_any (λ x. test (said (named p) x)) (map (form_of p) xs) ≡ list_any says xs
  mapped [] = refl
  mapped (x ∷ xs) = ap (λ b. says x || b) (mapped xs)

  each_says : (xs ys : List Insn) → length ys ≡ length xs → ((n : ℕ) (x : Insn) → slice_get xs n ≡ Some x → (y : Insn) × ((slice_get ys n ≡ Some y) × (said (named p) (form_of p y) ≡ said (named p) (form_of p x))))
      → list_any says ys ≡ list_any says xs
  each_says [] [] l h = refl
  each_says [] (y ∷ ys) l h = absurd (let e : length (y ∷ ys) ≡ 0 = l in omega (arith, e))
  each_says (x ∷ xs) [] l h = absurd (let e : 0 ≡ length (x ∷ xs) = l in omega (arith, e))
  each_says (x ∷ xs) (y ∷ ys) l h = ap (λ b. b || list_any says ys) (head (h 0 x refl))
      ∙ ap (λ b. says x || b) (each_says xs ys (let e : suc (length ys) ≡ suc (length xs) = l in omega (arith, e)) (λ n z e. h (suc n) z e))
    where
      head : (z : Insn) × ((Some y ≡ Some z) × (said (named p) (form_of p z) ≡ said (named p) (form_of p x))) → test (said (named p) (form_of p y)) ≡ test (said (named p) (form_of p x))
      head w = ap (λ z. test (said (named p) (form_of p z))) (some_same y w.0 w.1.0) ∙ ap test w.1.1

-- code whose instructions say the same one by one
pub alike_says : (p : Program) (k : MethodKey) (b d : Body) → length d.insns ≡ length b.insns
    → ((n : ℕ) (x : Insn) → slice_get b.insns n ≡ Some x → (y : Insn) × ((slice_get d.insns n ≡ Some y) × (said (named p) (form_of p y) ≡ said (named p) (form_of p x))))
    → SaysNoMore (named p) k (Some (body_of p b)) (Some (body_of p d))
alike_says p k b d l h test quiet e = mapped p test b.insns ∙ sym (each_says p test b.insns d.insns l h) ∙ sym (mapped p test d.insns) ∙ e

-- code whose instructions are made of others that say the same
pub mapped_says : (p : Program) (f : Insn → Insn) → ((x : Insn) → said (named p) (form_of p (f x)) ≡ said (named p) (form_of p x)) → (k : MethodKey) (b d : Body) → d.insns ≡ map f b.insns
    → SaysNoMore (named p) k (Some (body_of p b)) (Some (body_of p d))
mapped_says p f h k b d e test quiet i =
    mapped p test b.insns ∙ sym (each b.insns) ∙ sym (ap (list_any (says p test)) e) ∙ sym (mapped p test d.insns) ∙ i
  where
    each : (xs : List Insn) → list_any (says p test) (map f xs) ≡ list_any (says p test) xs
    each [] = refl
    each (x ∷ xs) = ap (λ s. test s || list_any (says p test) (map f xs)) (h x) ∙ ap (λ b. says p test x || b) (each xs)
