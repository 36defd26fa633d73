-- Calls in a row: of instructions, of methods and of classes.
use Rattle.std.proofs.Common.{◌≡◌, ℕ, zero, suc, ◌+◌, ◌*◌, ◌<◌, ◌≤◌, Bool, true, false, List, [], ◌∷◌, ◌++◌, length, take, get_or, Option, Some, None, refl, sym, ap, ◌∙◌, arith}
use Rattle.std.specs.Prelude.{◌&&◌, slice_get, sum_by}
use Rattle.std.proofs.lemmas.Bool.{leb-true}
use Rattle.std.proofs.lemmas.List.{length-take-le}
use Rattle.std.proofs.lemmas.List.Sums.{sum_by-cons}
use Rattle.lemmas.proofs.Options.{some_same}
use Rattle.insn_set.specs.declared.form.Insn.{Insn}
use Rattle.program_model.specs.Cells.{entries_of, body_cells, method_cells, class_cells, cells_of}
use Rattle.program_model.specs.ProgramRules.{is_well_formed}
use Rattle.program_model.specs.declared.body.Body.{Body}
use Rattle.program_model.specs.declared.program.Class.{Class}
use Rattle.program_model.specs.declared.program.Method.{Method}
use Rattle.program_model.specs.declared.program.Program.{Program}
use Rattle.program_model.proofs.Formed.{formed}
use Rattle.facts.specs.declared.facts.Facts.{Facts}
use Rattle.loose_methods.specs.Loose.{allows, all_allow, code_allows, methods_allow, classes_allow}
use Rattle.loose_methods.specs.Sifting.{IsShortCode, AreShortCodes}
use Rattle.loose_methods.proofs.Placed.{one_more}

and_assoc : (a b c : Bool) → ((a && b) && c) ≡ (a && (b && c))
and_assoc true b c = refl
and_assoc false b c = refl

and_end : (a : Bool) → (a && true) ≡ a
and_end true = refl
and_end false = refl

module _ (p : Program) (facts : Facts) (admitted : List Bool) (n : ℕ) where
  insns_end : (caller method start : ℕ) (is : List Insn) (i : Insn) → all_allow p facts admitted n caller method start (is ++ i ∷ []) ≡ (all_allow p facts admitted n caller method start is && allows p facts admitted n caller method (start + length is) i)
  insns_end caller method start [] i = and_end (allows p facts admitted n caller method start i) ∙ ap (λ k. allows p facts admitted n caller method k i) (let z : start ≡ start + 0 = omega arith in z)
  insns_end caller method start (j ∷ is) i =
      ap (λ b. allows p facts admitted n caller method start j && b) (insns_end caller method (suc start) is i)
      ∙ sym (and_assoc (allows p facts admitted n caller method start j) (all_allow p facts admitted n caller method (suc start) is) (allows p facts admitted n caller method (suc start + length is) i))
      ∙ ap (λ k. (allows p facts admitted n caller method start j && all_allow p facts admitted n caller method (suc start) is) && allows p facts admitted n caller method k i) (let z : suc start + length is ≡ start + suc (length is) = omega arith in z)

  pub insns_more : (caller method : ℕ) (is : List Insn) (at : ℕ) (i : Insn) → at < length is → i ≡ get_or is at i → (all_allow p facts admitted n caller method 0 (take at is) && allows p facts admitted n caller method at i) ≡ all_allow p facts admitted n caller method 0 (take (at + 1) is)
  insns_more caller method is at i lt e =
      ap (λ k. all_allow p facts admitted n caller method 0 (take at is) && allows p facts admitted n caller method k i) (let l = length-take-le at is (omega (arith, lt)) in let z : at ≡ 0 + length (take at is) = omega (arith, l) in z)
      ∙ sym (insns_end caller method 0 (take at is) i) ∙ ap (all_allow p facts admitted n caller method 0) (sym (one_more is at i lt e))

  methods_end : (caller : ℕ) (ms : List Method) (m : Method) → methods_allow p facts admitted n caller (ms ++ m ∷ []) ≡ (methods_allow p facts admitted n caller ms && code_allows p facts admitted n caller m.name m.body)
  methods_end caller [] m = and_end (code_allows p facts admitted n caller m.name m.body)
  methods_end caller (x ∷ ms) m = ap (λ b. code_allows p facts admitted n caller x.name x.body && b) (methods_end caller ms m) ∙ sym (and_assoc (code_allows p facts admitted n caller x.name x.body) (methods_allow p facts admitted n caller ms) (code_allows p facts admitted n caller m.name m.body))

  pub methods_more : (caller : ℕ) (ms : List Method) (at : ℕ) (m : Method) → at < length ms → m ≡ get_or ms at m → (methods_allow p facts admitted n caller (take at ms) && code_allows p facts admitted n caller m.name m.body) ≡ methods_allow p facts admitted n caller (take (at + 1) ms)
  methods_more caller ms at m lt e = sym (methods_end caller (take at ms) m) ∙ ap (methods_allow p facts admitted n caller) (sym (one_more ms at m lt e))

  classes_end : (start : ℕ) (ks : List Class) (k : Class) → classes_allow p facts admitted n start (ks ++ k ∷ []) ≡ (classes_allow p facts admitted n start ks && methods_allow p facts admitted n (start + length ks) k.methods)
  classes_end start [] k = and_end (methods_allow p facts admitted n start k.methods) ∙ ap (λ c. methods_allow p facts admitted n c k.methods) (let z : start ≡ start + 0 = omega arith in z)
  classes_end start (x ∷ ks) k =
      ap (λ b. methods_allow p facts admitted n start x.methods && b) (classes_end (suc start) ks k)
      ∙ sym (and_assoc (methods_allow p facts admitted n start x.methods) (classes_allow p facts admitted n (suc start) ks) (methods_allow p facts admitted n (suc start + length ks) k.methods))
      ∙ ap (λ c. (methods_allow p facts admitted n start x.methods && classes_allow p facts admitted n (suc start) ks) && methods_allow p facts admitted n c k.methods) (let z : suc start + length ks ≡ start + suc (length ks) = omega arith in z)

  pub classes_more : (ks : List Class) (at : ℕ) (k : Class) → at < length ks → k ≡ get_or ks at k → (classes_allow p facts admitted n 0 (take at ks) && methods_allow p facts admitted n at k.methods) ≡ classes_allow p facts admitted n 0 (take (at + 1) ks)
  classes_more ks at k lt e =
      ap (λ c. classes_allow p facts admitted n 0 (take at ks) && methods_allow p facts admitted n c k.methods) (let l = length-take-le at ks (omega (arith, lt)) in let z : at ≡ 0 + length (take at ks) = omega (arith, l) in z)
      ∙ sym (classes_end 0 (take at ks) k) ∙ ap (classes_allow p facts admitted n 0) (sym (one_more ks at k lt e))

-- ---- short bodies

long_body : (b : Body) → length b.insns ≤ body_cells b
long_body b = large b.registers (length b.insns) (sum_by entries_of b.insns)
  where
    large : (r l s : ℕ) → l ≤ (r + 1) * l + s
    large zero l s = omega arith
    large (suc r) l s = let z = large r l s in let w : (suc r + 1) * l + s ≡ l + ((r + 1) * l + s) = omega arith in omega (arith, z, w)

member_sum : {X : Type 0} (f : X → ℕ) (xs : List X) (i : ℕ) (x : X) → slice_get xs i ≡ Some x → f x ≤ sum_by f xs
member_sum f [] i x e = absurd (cc)
member_sum f (y ∷ xs) zero x e = let z : f y ≡ f x = ap f (some_same y x e) in let s = sum_by-cons f y xs in omega (arith, z, s)
member_sum f (y ∷ xs) (suc i) x e = let z = member_sum f xs i x e in let s = sum_by-cons f y xs in omega (arith, z, s)

pub short_codes : (p : Program) → is_well_formed p ≡ true → (c : ℕ) (k : Class) → slice_get p.classes c ≡ Some k → AreShortCodes k.methods
short_codes p wf c k e = λ i m f. by m.body (cells_at i m f)
  where
    most : cells_of p ≤ 67108864
    most = leb-true (cells_of p) 67108864 (formed p wf).cells

    cells_at : (i : ℕ) (m : Method) → slice_get k.methods i ≡ Some m → method_cells m ≤ 67108864
    cells_at i m f = let a = member_sum method_cells k.methods i m f in let b = member_sum class_cells p.classes c k e in let d = most in omega (arith, a, b, d)

    by : (b : Option Body) → (elim b as (λ x. ℕ) [ Some body ↦ body_cells body | None ↦ 0 ]) ≤ 67108864 → IsShortCode b
    by None l = tt
    by (Some b) l = let z = long_body b in omega (arith, z, l)
