-- What stands above a class by names is what the verifier's chains have above it, and two classes are nearest to one by name
-- where their chains meet.
use Rattle.std.proofs.Common.{◌≡◌, ℕ, zero, suc, ◌<◌, Bool, true, false, true≢false, nat_eq, List, [], ◌∷◌, length, Option, Some, None, refl, sym, ap, ◌∙◌, subst}
use Rattle.std.specs.Prelude.{◌||◌, cond, slice_get, find, option_and_then, if◌then◌else◌}
use Rattle.std.specs.List.{list_any}
use Rattle.std.specs.Option.{option_map}
use Rattle.std.proofs.lemmas.Option.{slice_get_within}
use Rattle.class_defs.proofs.Positions.{same_test, number_test, number_of}
use Rattle.class_defs.proofs.WellFormed.{class_parts}
use Rattle.class_defs.specs.Places.{chain_from}
use Rattle.program_model.specs.Lookups.{class_place}
use Rattle.program_model.specs.MemberRules.{has_flag}
use Rattle.program_model.specs.declared.program.Class.{Class}
use Rattle.program_model.specs.declared.program.Program.{Program}
use Rattle.dalvik_defs.specs.Flags as remainder
use Rattle.dalvik_defs.specs.Names.{Text, text_eq}
use Rattle.dalvik_defs.specs.Naming.{type_at, named_class, named}
use Rattle.dalvik_defs.specs.declared.program.NamedClass.{NamedClass}
use Rattle.name_bridge.specs.Named.{class_at, with_class, classes_at, name_at}
use Rattle.name_bridge.proofs.Above.{defined, own_place, length_map}
use Rattle.name_bridge.proofs.Classes.{type_test}
use Rattle.name_bridge.proofs.Flags.{interface_flag}
use Rattle.name_bridge.proofs.Found.{type_same}
use Rattle.name_bridge.proofs.Nearest.{HasClass, Each}
use Rattle.pass_defs.specs.Kinds as name
use Rattle.pass_defs.specs.Kinds.{line_from, line_of}
use Rattle.verify.specs.declared.tables.Tables.{Tables}
use Rattle.verify.specs.Building.{class_above, chain_above, is_among}
use Rattle.verify.specs.Chains.{is_in_chain}
use Rattle.verify.specs.Descriptors.{class_named}
use Rattle.verify.specs.Joins.{nearest_place}
use Rattle.verify.proofs.Ranked.{above_super}
use Rattle.type_bridge.proofs.Told.{Told}
use Rattle.type_bridge.proofs.Texts.{class_text, class_by_text}

above_none : (p : Program) (n : ℕ) → chain_from (class_above p) n None ≡ []
above_none p zero = refl
above_none p (suc n) = refl

module _ (p : Program) (t : Tables) (d : Told p t) where
  -- ---- what stands above a class

  pub place_is : (k : ℕ) → k < length p.types → class_named p (type_at p k) ≡ class_place p k
  place_is k h = ap (class_named p) (type_same p k) ∙ d.says.place k h

  -- a class has the place of its type's text
  pub placed_at : (c : ℕ) (k : Class) → slice_get p.classes c ≡ Some k → class_named p (type_at p k.name) ≡ Some c
  placed_at c k e = place_is k.name (class_parts p d.sound c k e).name ∙ own_place p d.once c k e

  abbrev line_on : ℕ → Option NamedClass → List NamedClass
  line_on n o = elim o as (λ o. List NamedClass) [ Some c ↦ c ∷ (if remainder.is_interface c.flags then [] else line_from n (named p) c.superclass) | None ↦ [] ]

  line_steps : (n : ℕ) (u : Text) → line_from n (named p) u ≡ classes_at p (chain_from (class_above p) n (class_named p u))
  line_steps zero u = refl
  line_steps (suc n) u = ap (line_on n) (class_by_text p d.well u) ∙ by_place (class_named p u) (line_steps n)
    where
      at_class : (c : ℕ) (o : Option Class) → slice_get p.classes c ≡ o → ((v : Text) → line_from n (named p) v ≡ classes_at p (chain_from (class_above p) n (class_named p v)))
          → line_on n (option_map (named_class p) o) ≡ with_class p o (classes_at p (chain_from (class_above p) n (class_above p c)))
      at_class c None e more = let s : class_above p c ≡ None = rw e refl in sym (ap (λ o. classes_at p (chain_from (class_above p) n o)) s ∙ ap (classes_at p) (above_none p n))
      at_class c (Some k) e more = ap (λ b. named_class p k ∷ (if b then [] else line_from n (named p) (type_at p k.superclass))) (sym (interface_flag k.flags)) ∙ ap (λ l. named_class p k ∷ l) (by (has_flag k.flags 512) refl)
        where
          super : (b : Bool) → has_flag k.flags 512 ≡ b → class_above p c ≡ cond b None (class_place p k.superclass)
          super b f = rw e rw f refl

          by : (b : Bool) → has_flag k.flags 512 ≡ b → (if b then [] else line_from n (named p) (type_at p k.superclass)) ≡ classes_at p (chain_from (class_above p) n (class_above p c))
          by true f = sym (ap (λ o. classes_at p (chain_from (class_above p) n o)) (super true f) ∙ ap (classes_at p) (above_none p n))
          by false f =
              more (type_at p k.superclass)
              ∙ ap (λ o. classes_at p (chain_from (class_above p) n o)) (place_is k.superclass (class_parts p d.sound c k e).superclass)
              ∙ sym (ap (λ o. classes_at p (chain_from (class_above p) n o)) (super false f))

      by_place : (o : Option ℕ) → ((v : Text) → line_from n (named p) v ≡ classes_at p (chain_from (class_above p) n (class_named p v))) → line_on n (option_and_then (class_at p) o) ≡ classes_at p (chain_from (class_above p) (suc n) o)
      by_place None more = refl
      by_place (Some c) more = at_class c (slice_get p.classes c) refl more

  -- a class and those above it
  pub line_is : (u : Text) → line_of (named p) u ≡ classes_at p (chain_from (class_above p) (length p.classes) (class_named p u))
  line_is u = ap (λ n. line_from n (named p) u) (length_map (named_class p) p.classes) ∙ line_steps (length p.classes) u

  -- ---- each of them has a class

  above_has : (c u : ℕ) → class_above p c ≡ Some u → HasClass p u
  above_has c u e = by_class (slice_get p.classes c) (above_super p c u e)
    where
      by_class : (o : Option Class) → option_and_then (λ k. class_place p k.superclass) o ≡ Some u → HasClass p u
      by_class None e = absurd (cc)
      by_class (Some k) e = let r = defined p k.superclass u e in record { class = r.class; is = r.is }

  each_above : (n : ℕ) (o : Option ℕ) → ((c : ℕ) → o ≡ Some c → HasClass p c) → Each p (chain_from (class_above p) n o)
  each_above zero o h = tt
  each_above (suc n) None h = tt
  each_above (suc n) (Some c) h = (h c refl, each_above n (class_above p c) (above_has c))

  among_has : (cs : List ℕ) (x : ℕ) → Each p cs → is_among cs x ≡ true → HasClass p x
  among_has [] x h e = absurd (true≢false (sym e))
  among_has (c ∷ cs) x h e = by (nat_eq x c) refl (among_has cs x h.1)
    where
      by : (b : Bool) → nat_eq x c ≡ b → (is_among cs x ≡ true → HasClass p x) → HasClass p x
      by true f more = subst (HasClass p) (sym (number_of x c f)) h.0
      by false f more = more (sym (ap (λ b. b || is_among cs x) f) ∙ e)

  -- what a chain has above a class is one
  pub above_class : (c e : ℕ) (k : Class) → slice_get p.classes c ≡ Some k → is_in_chain t.chains c e ≡ true → HasClass p e
  above_class c e k f n =
      among_has (chain_above p c) e
      (each_above (length p.classes) (Some c) (λ x g. let s : c ≡ x = cc in subst (HasClass p) s (record { class = k; is = f })))
      (sym (d.follows.in_chain c e (slice_get_within p.classes c k f)) ∙ n)

  text_has : (u : Text) (c : ℕ) → class_named p u ≡ Some c → HasClass p c
  text_has u c e = let r = class_text p d.well u c e in record { class = r.class; is = r.is }

  -- ---- the first of one list that is in another

  same_class : (c e : ℕ) (x : HasClass p c) (y : HasClass p e) → text_eq (type_at p x.class.name) (type_at p y.class.name) ≡ nat_eq c e
  same_class c e x y =
      type_test p d.sound x.class.name y.class.name (class_parts p d.sound c x.class x.is).name (class_parts p d.sound e y.class y.is).name
      ∙ same_test (nat_eq x.class.name y.class.name) (nat_eq c e)
      (λ h. let s : Some c ≡ Some e = sym (own_place p d.once c x.class x.is) ∙ ap (class_place p) (number_of _ _ h) ∙ own_place p d.once e y.class y.is in number_test c e cc)
      (λ h. let s : Some x.class ≡ Some y.class = sym x.is ∙ ap (slice_get p.classes) (number_of _ _ h) ∙ y.is in let w : x.class ≡ y.class = cc in number_test x.class.name y.class.name (ap (λ k. k.name) w))

  any_class : (c : ℕ) (x : HasClass p c) (es : List ℕ) → Each p es → list_any (λ e. text_eq (type_at p x.class.name) e.name) (classes_at p es) ≡ list_any (nat_eq c) es
  any_class c x [] h = refl
  any_class c x (e ∷ es) h =
      ap (λ o. list_any (λ e. text_eq (type_at p x.class.name) e.name) (with_class p o (classes_at p es))) h.0.is
      ∙ ap (λ b. b || list_any (λ e. text_eq (type_at p x.class.name) e.name) (classes_at p es)) (same_class c e x h.0)
      ∙ ap (λ b. nat_eq c e || b) (any_class c x es h.1)

  abbrev first_in : List NamedClass → List NamedClass → Option Text
  first_in cs es = option_map (λ (c : NamedClass). c.name) (find (λ c. list_any (λ (e : NamedClass). text_eq c.name e.name) es) cs)

  first_common : (cs es : List ℕ) → Each p cs → Each p es → first_in (classes_at p cs) (classes_at p es) ≡ option_and_then (name_at p) (find (is_among es) cs)
  first_common [] es h k = refl
  first_common (c ∷ cs) es h k =
      ap (λ o. first_in (with_class p o (classes_at p cs)) (classes_at p es)) h.0.is
      ∙ ap (λ b. option_map (λ c. c.name) (cond b (Some (named_class p h.0.class)) (find (λ c. list_any (λ e. text_eq c.name e.name) (classes_at p es)) (classes_at p cs)))) (any_class c h.0 es k)
      ∙ by_test (list_any (nat_eq c) es) (first_common cs es h.1 k)
    where
      by_test : (b : Bool) → first_in (classes_at p cs) (classes_at p es) ≡ option_and_then (name_at p) (find (is_among es) cs)
          → option_map (λ c. c.name) (cond b (Some (named_class p h.0.class)) (find (λ c. list_any (λ e. text_eq c.name e.name) (classes_at p es)) (classes_at p cs)))
          ≡ option_and_then (name_at p) (cond b (Some c) (find (is_among es) cs))
      by_test true r = sym (ap (option_map (λ k. type_at p k.name)) h.0.is)
      by_test false r = r

  none_common : (cs : List NamedClass) → first_in cs [] ≡ None
  none_common [] = refl
  none_common (c ∷ cs) = none_common cs

  -- ---- the nearest class by name

  short : (u : Text) (c : ℕ) → class_named p u ≡ Some c → c < length p.classes
  short u c e = let r = class_text p d.well u c e in slice_get_within p.classes c r.class r.is

  -- The nearest class of two texts is the class at which the chains of theirs meet, and there is none where one has no class.
  pub nearest_is : (s u : Text) → name.nearest (named p) s u ≡ option_and_then (name_at p) (nearest_place t (class_named p s) (class_named p u))
  nearest_is s u =
      ap (λ cs. first_in cs (line_of (named p) u)) (line_is s)
      ∙ ap (first_in (classes_at p (chain_from (class_above p) (length p.classes) (class_named p s)))) (line_is u)
      ∙ by (class_named p s) (class_named p u) refl refl
    where
      by : (o q : Option ℕ) → class_named p s ≡ o → class_named p u ≡ q → first_in (classes_at p (chain_from (class_above p) (length p.classes) o)) (classes_at p (chain_from (class_above p) (length p.classes) q)) ≡ option_and_then (name_at p) (nearest_place t o q)
      by None q e f = ap (λ cs. first_in (classes_at p cs) (classes_at p (chain_from (class_above p) (length p.classes) q))) (above_none p (length p.classes))
      by (Some a) None e f = ap (λ es. first_in (classes_at p (chain_above p a)) (classes_at p es)) (above_none p (length p.classes)) ∙ none_common (classes_at p (chain_above p a))
      by (Some a) (Some b) e f =
          first_common (chain_above p a) (chain_above p b) (each_above (length p.classes) (Some a) (λ c g. text_has s c (e ∙ g))) (each_above (length p.classes) (Some b) (λ c g. text_has u c (f ∙ g)))
          ∙ ap (option_and_then (name_at p)) (sym (d.follows.meets a b (short s a e) (short u b f)))

  pub nearest_none : (s u : Text) → class_named p u ≡ None → name.nearest (named p) s u ≡ None
  nearest_none s u e = nearest_is s u ∙ ap (λ o. option_and_then (name_at p) (nearest_place t (class_named p s) o)) e ∙ by (class_named p s)
    where
      by : (o : Option ℕ) → option_and_then (name_at p) (nearest_place t o None) ≡ None
      by None = refl
      by (Some c) = refl
