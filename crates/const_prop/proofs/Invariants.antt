-- What is kept while the instructions of a body are gone through.
use Rattle.std.proofs.Common.{◌≡◌, ℕ, ◌+◌, ◌<◌, ◌≤◌, min, Bool, true, false, List, [], ◌++◌, length, take, take_all, get_or, Option, Some, sym, ap, ◌∙◌, arith}
use Rattle.std.specs.Prelude.{slice_get, if◌then◌else◌}
use Rattle.std.proofs.lemmas.Bool.{le-leb}
use Rattle.std.proofs.lemmas.Option.{slice_get-get_or}
use Rattle.insn_set.specs.declared.form.Insn.{Insn}
use Rattle.const_prop.specs.declared.asking.Code.{Code}
use Rattle.const_prop.specs.declared.folding.Fold.{Fold}
use Rattle.const_prop.specs.declared.results.Results.{Results}
use Rattle.const_prop.specs.Asked.{IsKnown}
use Rattle.const_prop.specs.Folds.{fold_at, one_or_none, folds_from, folds_of, is_numbered}
use Rattle.const_prop.proofs.Found.{one_more}

abbrev pub at_code : Results → Code → ℕ → Insn → Option Fold
at_code s code n f = fold_at s.program.now s.facts.now code.class code.method code.body.now.insns n f

-- what is found for the first instructions
abbrev pub FoldsSo : Results → Code → ℕ → List Fold → Type 0
FoldsSo s code n xs = IsKnown s → xs ≡ folds_from (at_code s code) 0 (take n code.body.now.insns)

pub folds_more : (s : Results) (code : Code) (is : List Insn) (n position : ℕ) (f : Insn) (xs ys : List Fold) (o : Option Fold) → is ≡ code.body.now.insns → n < length is → length code.body.now.insns ≤ 4294967295 → position ≡ min n 4294967295 → f ≡ get_or is n f
    → FoldsSo s code n xs → (IsKnown s → position < 4294967295 → o ≡ at_code s code position f) → ys ≡ xs ++ one_or_none o → FoldsSo s code (n + 1) ys
folds_more s code is n position f xs ys o i lt few p e old at more k =
    let lt' : n < length code.body.now.insns = omega (arith, lt, ap length i) in
    let q : position ≡ n = omega (arith, p, few, lt') in
    let small : position < 4294967295 = omega (arith, q, few, lt') in
    let there : slice_get code.body.now.insns n ≡ Some f = slice_get-get_or code.body.now.insns n f lt' ∙ ap Some (sym (e ∙ ap (λ l. get_or l n f) i)) in
    let zero : 0 + n ≡ n = omega arith in
    more ∙ (ap (λ l. l ++ one_or_none o) (old k)
    ∙ (ap (λ z. folds_from (at_code s code) 0 (take n code.body.now.insns) ++ one_or_none z) (at k small ∙ ap (λ m. at_code s code m f) (q ∙ sym zero))
    ∙ sym (one_more (at_code s code) 0 n code.body.now.insns f there)))

-- all instructions are gone through
pub folds_all : (s : Results) (code : Code) (is : List Insn) (n : ℕ) (xs : List Fold) → is ≡ code.body.now.insns → length is ≤ n → length code.body.now.insns ≤ 4294967295 → FoldsSo s code n xs
    → IsKnown s → xs ≡ folds_of s.program.now s.facts.now code.class code.method code.body.now
folds_all s code is n xs i past few so k = by (is_numbered code.body.now) (le-leb (length code.body.now.insns) 4294967295 few)
  where
    past' : length code.body.now.insns ≤ n
    past' = omega (arith, past, ap length i)

    by : (v : Bool) → v ≡ true → xs ≡ (if v then folds_from (at_code s code) 0 code.body.now.insns else [])
    by true e = so k ∙ ap (folds_from (at_code s code) 0) (take_all n code.body.now.insns past')
    by false e = absurd (cc)
