-- Renamed kinds keep their order.
use Rattle.std.proofs.Common.{◌≡◌, ℕ, zero, suc, Bool, true, false, List, [], ◌∷◌, refl, sym, ap, ap₂, ◌∙◌}
use Rattle.std.specs.Prelude.{◌&&◌, Option, Some, None, map, nat_eq, if◌then◌else◌}
use Rattle.std.specs.Option.{option_map}
use Rattle.dalvik_defs.specs.Names.{Text, text_eq, is_word, is_wide, is_reference, is_array}
use Rattle.dalvik_defs.specs.declared.program.NamedProgram.{NamedProgram}
use Rattle.pass_defs.specs.Kinds.{Kind, Undefined, Word, Low, Class, Array, Reference, Fresh, kind_eq, is_number, is_initialised, is_null, is_plain, kind_of_reference, kind_of, is_below}
use Rattle.pass_defs.specs.Registers.{Kinds, kind_at, all_below, kinds_below, state_below}
use Rattle.thin_laws.specs.Renamed.{KeepsApart, renamed, kinds_renamed}

module _ (s : ℕ → ℕ) (apart : KeepsApart s) where
  abbrev mv : Kind → Kind
  mv = renamed s

  pub eq_kept : (a b : Kind) → kind_eq (mv a) (mv b) ≡ kind_eq a b
  eq_kept (Fresh t n) (Fresh u m) = ap (λ c. text_eq t u && c) (apart n m)
  eq_kept a (Fresh u m) = refl
  eq_kept a b = refl

  -- a kind that has no position is the same as before
  pub eq_plain : (a k : Kind) → mv k ≡ k → kind_eq (mv a) k ≡ kind_eq a k
  eq_plain a k e = ap (kind_eq (mv a)) (sym e) ∙ eq_kept a k

  pub number_kept : (k : Kind) → is_number (mv k) ≡ is_number k
  number_kept (Fresh t n) = refl
  number_kept k = refl

  pub initialised_kept : (k : Kind) → is_initialised (mv k) ≡ is_initialised k
  initialised_kept (Fresh t n) = refl
  initialised_kept k = refl

  pub null_kept : (k : Kind) → is_null (mv k) ≡ is_null k
  null_kept (Fresh t n) = refl
  null_kept k = refl

  pub fixed_if : (b : Bool) (x y : Kind) → mv x ≡ x → mv y ≡ y → mv (if b then x else y) ≡ (if b then x else y)
  fixed_if true x y e d = e
  fixed_if false x y e d = d

  module _ (p : NamedProgram) where
    pub reference_fixed : (t : Text) → mv (kind_of_reference p t) ≡ kind_of_reference p t
    reference_fixed t = fixed_if (is_array t) (Array t) (if is_plain p t then Class t else Reference) refl (fixed_if (is_plain p t) (Class t) Reference refl refl)

    pub kind_fixed : (t : Text) → mv (kind_of p t) ≡ kind_of p t
    kind_fixed t = fixed_if (is_word t) Word (if is_wide t then Low else if is_reference t then kind_of_reference p t else Undefined) refl
        (fixed_if (is_wide t) Low (if is_reference t then kind_of_reference p t else Undefined) refl (fixed_if (is_reference t) (kind_of_reference p t) Undefined (reference_fixed t) refl))

    pub below_kept : (a b : Kind) → is_below p (mv a) (mv b) ≡ is_below p a b
    below_kept (Fresh t n) (Fresh u m) = ap (λ c. kind_eq (if text_eq t u && c then Fresh t (s n) else Undefined) (Fresh u (s m))) (apart n m) ∙ by (text_eq t u && nat_eq n m)
      where
        by : (c : Bool) → kind_eq (if c then Fresh t (s n) else Undefined) (Fresh u (s m)) ≡ kind_eq (if c then Fresh t n else Undefined) (Fresh u m)
        by true = eq_kept (Fresh t n) (Fresh u m)
        by false = refl
    below_kept a (Fresh u m) = refl
    below_kept a b = refl

    pub all_kept : (ks ls : List Kind) → all_below p (map mv ks) (map mv ls) ≡ all_below p ks ls
    all_kept [] [] = refl
    all_kept [] (l ∷ ls) = refl
    all_kept (k ∷ ks) [] = refl
    all_kept (k ∷ ks) (l ∷ ls) = ap₂ (λ a b. a && b) (below_kept k l) (all_kept ks ls)

    pub kinds_kept : (a b : Kinds) → kinds_below p (kinds_renamed s a) (kinds_renamed s b) ≡ kinds_below p a b
    kinds_kept a b =
        ap (λ x. x && is_below p (mv a.result) (mv b.result) && is_below p (mv a.caught) (mv b.caught) && is_below p (mv a.receiver) (mv b.receiver)) (all_kept a.registers b.registers)
        ∙ ap (λ x. all_below p a.registers b.registers && x && is_below p (mv a.caught) (mv b.caught) && is_below p (mv a.receiver) (mv b.receiver)) (below_kept a.result b.result)
        ∙ ap (λ x. all_below p a.registers b.registers && is_below p a.result b.result && x && is_below p (mv a.receiver) (mv b.receiver)) (below_kept a.caught b.caught)
        ∙ ap (λ x. all_below p a.registers b.registers && is_below p a.result b.result && is_below p a.caught b.caught && x) (below_kept a.receiver b.receiver)

    pub state_kept : (a b : Option Kinds) → state_below p (option_map (kinds_renamed s) a) (option_map (kinds_renamed s) b) ≡ state_below p a b
    state_kept None b = refl
    state_kept (Some a) None = refl
    state_kept (Some a) (Some b) = kinds_kept a b

  pub at_kept : (ks : List Kind) (r : ℕ) → kind_at (map mv ks) r ≡ mv (kind_at ks r)
  at_kept [] r = refl
  at_kept (k ∷ ks) zero = refl
  at_kept (k ∷ ks) (suc r) = at_kept ks r
