-- What a table of shut methods says of a program it says of the program in which methods are static, by the tables of that.
use Rattle.std.proofs.Common.{◌≡◌, ℕ, ◌<◌, ◌≤◌, inl, inr, lt-ltb, Bool, true, false, true≢false, List, [], ◌∷◌, Option, Some, None, refl, sym, ap, ◌∙◌, subst}
use Rattle.std.specs.Prelude.{length, is_some, nat_lt, slice_get, if◌then◌else◌}
use Rattle.std.proofs.lemmas.Bool.{cases_lt}
use Rattle.std.proofs.lemmas.Option.{slice_get_past}
use Rattle.program_model.specs.declared.pass.Outside.{Outside}
use Rattle.program_model.specs.declared.pools.MethodName.{MethodName}
use Rattle.program_model.specs.declared.program.Program.{Program}
use Rattle.class_defs.specs.ClassGraph.{IsTwice}
use Rattle.class_defs.proofs.WellFormed.{below}
use Rattle.dalvik_defs.specs.Names.{Text, is_class_type, method_eq}
use Rattle.dalvik_defs.specs.Naming.{method_at, named, signature_at, text_at, type_at}
use Rattle.dalvik_defs.specs.Outer.{Outer, methods_in, outer_of}
use Rattle.dalvik_defs.specs.declared.names.MethodKey.{MethodKey}
use Rattle.dalvik_defs.specs.declared.program.NamedProgram.{NamedProgram}
use Rattle.run_laws.specs.Holds.{Each}
use Rattle.name_bridge.proofs.Tables.{Sound, method_once}
use Rattle.pass_defs.specs.Loose.{new_key, staticised}
use Rattle.pass_defs.specs.Numbered.{tables_of}
use Rattle.removal_law.specs.Left.{In}
use Rattle.removal_law.specs.Reach.{IsRegular, NamesOnce, ShutsHold, TellsApart}
use Rattle.removal_law.proofs.Declared.{method_same, method_sound}
use Rattle.removal_law.proofs.Outward.{any_here, any_where}
use Rattle.removal_law.proofs.Trees.{defined}
use Rattle.program_laws.specs.Shutting.{ShutsAlike, with_shut}
use Rattle.program_laws.specs.Remade.{Remethod, SameMethods, remade}
use Rattle.static_law.specs.Static.{AreInTables, MayAllBeStatic}
use Rattle.static_law.specs.Shut.{WasShut, Stayed, Moved}
use Rattle.static_law.proofs.Holding.{still_hold}
use Rattle.static_law.specs.Edited.{IsEdited, IsPlanned, loose_in}
use Rattle.static_law.proofs.Forms.{inside_table}
use Rattle.static_law.proofs.Programs.{named_now, new, same_methods}
use Rattle.static_law.proofs.Tables.{loose_from, loose_number, method_same_at}
use Rattle.static_law.proofs.Outers.{outer_same, shuts_alike}

not_below : (m n : ℕ) → nat_lt m n ≡ false → n ≤ m
not_below m n e = elim (cases_lt m n) [ inl l ↦ absurd (true≢false (sym (lt-ltb m n l) ∙ e)) | inr g ↦ g ]

abbrev method_of : Program → Option MethodName → MethodKey
method_of p o = elim o as (λ o. MethodKey) [ Some m ↦ record { class = type_at p m.class; name = text_at p m.name; signature = signature_at p m.proto } | None ↦ record { class = []; name = []; signature = record { parameters = []; result = [] } } ]

module _ (given target : ℕ → Option ℕ) (p q : Program) (s : Sound p) (edited : IsEdited given target p q) (planned : IsPlanned p given target) (o : Outside)
    (given_so : MayAllBeStatic (named p) (outer_of p o) (tables_of p).methods (loose_in p given)) (upright : IsRegular (named p)) where
  abbrev loose : MethodKey → Bool
  loose = loose_in p given

  -- the name of a number that isn't made static is that of none that is
  not_loose : (n : ℕ) → given n ≡ None → loose (method_at p n) ≡ false
  not_loose n g = by (nat_lt n (length p.methods)) refl
    where
      past : length p.methods ≤ n → (b : Bool) → loose (method_at p n) ≡ b → b ≡ false
      past ge false l = refl
      past ge true l =
          let none : (method_at p n).class ≡ [] = ap (λ (o : Option MethodName). (method_of p o).class) (slice_get_past p.methods n ge) in
          let there : is_class_type (method_at p n).class ≡ true = upright.names (method_at p n).class (defined (named p) (method_at p n).class (given_so (method_at p n) l).class (given_so (method_at p n) l).named) in
          absurd (true≢false (sym there ∙ ap is_class_type none))

      by : (b : Bool) → nat_lt n (length p.methods) ≡ b → loose (method_at p n) ≡ false
      by true e = loose_number given p s n (below n (length p.methods) e) ∙ ap is_some g
      by false e = past (not_below n (length p.methods) e) (loose (method_at p n)) refl

  pub was_shut : (k : MethodKey) → methods_in q o.shut k ≡ true → WasShut (outer_of p o) loose k
  was_shut k e =
      let r = any_where (λ n. method_eq (method_at q n) k) o.shut e in
      by r.0 r.1.0 (method_sound (method_at q r.0) k r.1.1) (given r.0) refl
    where
      shut_there : (n : ℕ) → In n o.shut → methods_in p o.shut (method_at p n) ≡ true
      shut_there n i = any_here (λ x. method_eq (method_at p x) (method_at p n)) n o.shut i (method_same (method_at p n))

      by : (n : ℕ) → In n o.shut → method_at q n ≡ k → (x : Option ℕ) → given n ≡ x → WasShut (outer_of p o) loose k
      by n i same None g =
          let old : method_at p n ≡ k = sym (method_same_at given target p q s edited planned.inside n ∙ ap (λ (o : Option ℕ). if is_some o then new_key (method_at p n) else method_at p n) g) ∙ same in
          Stayed (sym (ap (methods_in p o.shut) old) ∙ shut_there n i) (sym (ap loose old) ∙ not_loose n g)
      by n i same (Some z) g =
          Moved (method_at p n) (loose_number given p s n (inside_table given target p planned n (ap is_some g)) ∙ ap is_some g) (shut_there n i)
          (sym same ∙ (method_same_at given target p q s edited planned.inside n ∙ ap (λ (o : Option ℕ). if is_some o then new_key (method_at p n) else method_at p n) g))

  pub shuts_still : (twice : (class : ℕ) → IsTwice p class → ⊥) (in_tables : AreInTables (named p) (outer_of p o) (tables_of p).methods) → NamesOnce (named p) → TellsApart (named p) → TellsApart (staticised (named p) loose)
      → Each (λ n. given n ≡ None) o.methods → ShutsAlike (named q) (outer_of p o).shut (outer_of q o).shut → ShutsHold (named p) (outer_of p o) → ShutsHold (named q) (outer_of q o)
  shuts_still twice in_tables names tells tells_static free alike holds =
      let now = named_now given target p q s twice edited planned in
      subst (ShutsHold (named q)) (sym (outer_same given target p q s edited planned o free))
      (subst (λ x. ShutsHold x (with_shut (outer_of p o) (outer_of q o).silent (outer_of q o).shut)) (sym now)
      (still_hold (named p) (outer_of p o) (tables_of p).methods loose given_so in_tables upright names tells tells_static (new given target p q s twice edited planned) (same_methods given target p q s twice edited planned)
      (outer_of q o).silent (outer_of q o).shut was_shut (subst (λ x. ShutsAlike x (outer_of p o).shut (outer_of q o).shut) now alike) holds))
