-- Method numbers that a list or a table of marks names, by names.
use Rattle.std.proofs.Common.{◌≡◌, ℕ, ◌<◌, ◌≤◌, inl, inr, Bool, true, false, true≢false, List, [], ◌∷◌, length, refl, sym, ap, ◌∙◌, ltb-true, lt-ltb}
use Rattle.std.specs.Prelude.{◌&&◌, ◌||◌, Option, Some, None, slice_get, slice_index_or, nat_eq, nat_lt, is_ok}
use Rattle.std.specs.List.{list_any}
use Rattle.std.proofs.lemmas.Bool.{cases_lt}
use Rattle.std.proofs.lemmas.Option.{slice_get_past}
use Rattle.dex_base.specs.Descriptor.{descriptor_of}
use Rattle.program_model.specs.Texts.{has_string, string_text}
use Rattle.program_model.specs.TableRules.{type_fits}
use Rattle.program_model.specs.declared.pools.MethodName.{MethodName}
use Rattle.program_model.specs.declared.program.Program.{Program}
use Rattle.class_defs.proofs.Positions.{both, same_test, number_of, number_test}
use Rattle.dalvik_defs.specs.Names.{Text, method_eq}
use Rattle.dalvik_defs.specs.Naming.{text_at, type_at, signature_at, method_at}
use Rattle.dalvik_defs.specs.Outer.{methods_in}
use Rattle.dalvik_defs.specs.declared.names.MethodKey.{MethodKey}
use Rattle.name_bridge.proofs.Found.{text_same}
use Rattle.name_bridge.proofs.Tables.{Sound, all_at, and_left, and_right, entry_at, method_class, method_is, method_once}
use Rattle.removal_law.proofs.Declared.{method_sound, method_same}
use Rattle.reach_bridge.proofs.Held.{any_has, any_from}
use Rattle.headline.specs.Admitted.{admitted_in}

not_below : (m n : ℕ) → nat_lt m n ≡ false → n ≤ m
not_below m n e = elim (cases_lt m n) [ inl l ↦ absurd (true≢false (sym (lt-ltb m n l) ∙ e)) | inr g ↦ g ]

some_unit : (t : Text) → t ≡ [] → is_ok (descriptor_of t) ≡ true → ⊥
unfolding descriptor_of
some_unit [] s e = true≢false (sym e)
some_unit (u ∷ us) s e = absurd (cc)

-- the key of a table's entry
abbrev key_of : Program → Option MethodName → MethodKey
key_of p o = elim o as (λ o. MethodKey) [ Some m ↦ record { class = type_at p m.class; name = text_at p m.name; signature = signature_at p m.proto } | None ↦ record { class = []; name = []; signature = record { parameters = []; result = [] } } ]

module _ (p : Program) (s : Sound p) where
  -- a type has a descriptor, which is no empty text
  never_empty : (n : ℕ) → n < length p.types → type_at p n ≡ [] → ⊥
  never_empty n low e =
      let i = entry_at p.types n low in
      some_unit (type_at p n) e
      (ap (λ (t : Text). is_ok (descriptor_of t)) (ap (λ (o : Option ℕ). elim o as (λ o. Text) [ Some t ↦ text_at p t | None ↦ [] ]) i.1 ∙ text_same p i.0)
      ∙ and_right (has_string p i.0) (is_ok (descriptor_of (string_text p i.0))) (all_at (type_fits p) p.types n i.0 s.types_fit i.1))

  module _ (m : ℕ) (low : m < length p.methods) where
    -- the one number of a method's name, past the table's end too
    number_named : (n : ℕ) → method_eq (method_at p n) (method_at p m) ≡ true → n ≡ m
    number_named n e = by (nat_lt n (length p.methods)) refl
      where
        same : method_at p n ≡ method_at p m
        same = method_sound (method_at p n) (method_at p m) e

        by : (b : Bool) → nat_lt n (length p.methods) ≡ b → n ≡ m
        by true f = method_once p s n m (ltb-true n (length p.methods) f) low same
        by false f =
            let q = entry_at p.methods m low in
            let none : slice_get p.methods n ≡ None = slice_get_past p.methods n (not_below n (length p.methods) f) in
            let empty : [] ≡ type_at p q.0.class = sym (ap (λ (o : Option MethodName). (key_of p o).class) none) ∙ ap (λ (k : MethodKey). k.class) same ∙ ap (λ (k : MethodKey). k.class) (method_is p s m q.0 q.1) in
            absurd (never_empty q.0.class (method_class p s m q.0 q.1) (sym empty))

    name_test : (n : ℕ) → nat_eq n m ≡ method_eq (method_at p n) (method_at p m)
    name_test n = same_test (nat_eq n m) (method_eq (method_at p n) (method_at p m))
        (λ e. ap (λ k. method_eq (method_at p k) (method_at p m)) (number_of n m e) ∙ method_same (method_at p m)) (λ e. number_test n m (number_named n e))

    -- a number is one of some numbers exactly where its name is that of one of them
    pub listed_named : (ns : List ℕ) → list_any (λ n. nat_eq n m) ns ≡ methods_in p ns (method_at p m)
    listed_named [] = refl
    listed_named (n ∷ ns) = ap (λ b. b || list_any (λ n. nat_eq n m) ns) (name_test n) ∙ ap (λ b. method_eq (method_at p n) (method_at p m) || b) (listed_named ns)

    -- and it is marked exactly where its name is that of a marked one
    pub admitted_named : (marks : List Bool) → admitted_in p marks (method_at p m) ≡ slice_index_or marks m false
    admitted_named marks = same_test (admitted_in p marks (method_at p m)) (slice_index_or marks m false) down
        (λ e. any_has (length p.methods) (λ n. slice_index_or marks n false && method_eq (method_at p n) (method_at p m)) m low (both (slice_index_or marks m false) (method_eq (method_at p m) (method_at p m)) e (method_same (method_at p m))))
      where
        down : admitted_in p marks (method_at p m) ≡ true → slice_index_or marks m false ≡ true
        down e =
            let r = any_from (length p.methods) (λ n. slice_index_or marks n false && method_eq (method_at p n) (method_at p m)) e in
            ap (λ k. slice_index_or marks k false) (sym (number_named r.0 (and_right (slice_index_or marks r.0 false) (method_eq (method_at p r.0) (method_at p m)) r.1.1)))
            ∙ and_left (slice_index_or marks r.0 false) (method_eq (method_at p r.0) (method_at p m)) r.1.1
