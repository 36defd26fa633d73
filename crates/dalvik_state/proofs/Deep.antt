-- A type number of a well-formed program has few brackets.
use Rattle.std.proofs.Common.{◌≡◌, ℕ, zero, suc, ◌<◌, ◌≤◌, Bool, true, false, true≢false, [], ◌∷◌, ◌++◌, length, nat_eq, replicate, Ok, Err, Result, arith, ap, refl, sym, subst, ◌∙◌, eqb-true}
use Rattle.std.specs.Prelude.{is_ok, Option, Some, None}
use Rattle.dex_base.specs.Descriptor.{descriptor_of, is_primitive}
use Rattle.dex_base.specs.Grammar.{IsElement, OfLetter, OfClass, IsDescriptor, OfVoid, OfElement, OfArray}
use Rattle.dex_base.specs.declared.descriptor.Descriptor.{Descriptor}
use Rattle.dex_base.specs.declared.fault.BaseFault.{BaseFault}
use Rattle.dex_base.proofs.Names.{descriptor_found}
use Rattle.program_model.specs.Texts.{has_string, string_text}
use Rattle.program_model.specs.TableRules.{type_fits}
use Rattle.program_model.specs.declared.program.Program.{Program}
use Rattle.name_bridge.proofs.Found.{text_same}
use Rattle.name_bridge.proofs.Tables.{Sound, all_at, and_right, entry_at, sound}
use Rattle.dalvik_defs.specs.Names.{Text, is_array}
use Rattle.dalvik_defs.specs.Naming.{text_at, type_at}
use Rattle.dalvik_lookups.specs.declared.lookups.Lookups.{Lookups}
use Rattle.dalvik_lookups.specs.Tables.{kind_in, IsRight}
use Rattle.dalvik_lookups.specs.Views.{name_at}
use Rattle.dalvik_state.specs.States.{IsFineKind}

-- what begins an element of an array is no bracket
bare : (text : Text) (k : Descriptor) → IsElement text k → is_array text ≡ false
bare text k (OfLetter u p e at) = ap is_array e ∙ by (nat_eq u 91) refl
  where
    by : (b : Bool) → nat_eq u 91 ≡ b → b ≡ false
    by true f = absurd (true≢false (sym (subst (λ (x : ℕ). is_primitive x ≡ true) (eqb-true u 91 f) p)))
    by false f = refl
bare text k (OfClass names are e at) = ap is_array e

few_behind : (depth d : ℕ) (element rest : Text) → is_array element ≡ false → replicate depth 91 ++ element ≡ replicate d 91 ++ rest → d ≤ depth
few_behind depth zero element rest h e = omega arith
few_behind zero (suc d) element rest h e = absurd (true≢false (sym (ap is_array e) ∙ h))
few_behind (suc depth) (suc d) element rest h e =
    let tail : replicate depth 91 ++ element ≡ replicate d 91 ++ rest = cc in
    let less = few_behind depth d element rest h tail in
    omega (arith, less)

few_in : (text : Text) (k : Descriptor) → IsDescriptor text k → (d : ℕ) (rest : Text) → text ≡ replicate d 91 ++ rest → d ≤ 255
few_in text k is zero rest e = omega arith
few_in text k (OfVoid f at) (suc d) rest e = absurd (true≢false (sym (ap is_array (sym f ∙ e))))
few_in text k (OfElement f) (suc d) rest e = absurd (true≢false (sym (ap is_array e) ∙ bare text k f))
few_in text k (OfArray depth element of some few is f at) (suc d) rest e =
    let less = few_behind depth (suc d) element rest (bare element of f) (sym is ∙ e) in
    omega (arith, few, less)

few_of : (m : ℕ) (rest : Text) → is_ok (descriptor_of (replicate m 91 ++ rest)) ≡ true → m ≤ 255
few_of m rest e = by (descriptor_of (replicate m 91 ++ rest)) refl e
  where
    by : (r : Result Descriptor BaseFault) → descriptor_of (replicate m 91 ++ rest) ≡ r → is_ok r ≡ true → m ≤ 255
    by (Ok k) f g = few_in (replicate m 91 ++ rest) k (descriptor_found (replicate m 91 ++ rest) k f) m rest refl
    by (Err x) f g = absurd (true≢false (sym g))

some_unit : (t : Text) → t ≡ [] → is_ok (descriptor_of t) ≡ true → ⊥
unfolding descriptor_of
some_unit [] s e = true≢false (sym e)
some_unit (u ∷ us) s e = absurd (cc)

-- a type of the program has a descriptor
pub descriptor_there : (p : Program) → Sound p → (n : ℕ) → n < length p.types → is_ok (descriptor_of (type_at p n)) ≡ true
descriptor_there p s n low =
    let i = entry_at p.types n low in
    ap (λ (t : Text). is_ok (descriptor_of t)) (ap (λ (o : Option ℕ). elim o as (λ o. Text) [ Some t ↦ text_at p t | None ↦ [] ]) i.1 ∙ text_same p i.0)
    ∙ and_right (has_string p i.0) (is_ok (descriptor_of (string_text p i.0))) (all_at (type_fits p) p.types n i.0 s.types_fit i.1)

pub never_empty : (p : Program) → Sound p → (n : ℕ) → n < length p.types → type_at p n ≡ [] → ⊥
never_empty p s n low e = some_unit (type_at p n) e (descriptor_there p s n low)

pub fine_type : (l : Lookups) → IsRight l → (n : ℕ) → n < length l.program.now.types → IsFineKind l (kind_in l.kinds.items n)
fine_type l r n low =
    let is = r.tabled.named.kinds n low in
    let k = kind_in l.kinds.items n in
    let few = few_of k.depth (name_at l.types k.base) (ap (λ (t : Text). is_ok (descriptor_of t)) is.text ∙ descriptor_there l.program.now (sound l.program.now r.well) n low) in
    record { there = is.kind; deep = omega (arith, few) }
