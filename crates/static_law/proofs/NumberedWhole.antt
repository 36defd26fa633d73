-- A program in which methods are static that may be, by number: it shows the same, is typed, and keeps what the outside keeps.
use Rattle.std.proofs.Common.{◌≡◌, ℕ, Bool, true, List, Option, Some, None, refl, sym, ap, ◌∙◌, subst}
use Rattle.std.specs.Option.{option_map}
use Rattle.program_model.specs.ProgramRules.{is_well_formed}
use Rattle.program_model.specs.declared.pass.Outside.{Outside}
use Rattle.program_model.specs.declared.program.Program.{Program}
use Rattle.class_defs.specs.ClassGraph.{IsAncestor, IsTwice}
use Rattle.class_defs.proofs.WellFormed.{sound as sound_tables}
use Rattle.hierarchy.specs.Splitting.{NoSplit}
use Rattle.dalvik_defs.specs.Names.{Text, object_type}
use Rattle.dalvik_defs.specs.Naming.{named}
use Rattle.dalvik_defs.specs.Outer.{Outer, outer_of}
use Rattle.dalvik_defs.specs.Shown.{Fit, SameShown}
use Rattle.dalvik_defs.specs.Under.{class_named, defines}
use Rattle.dalvik_defs.specs.declared.names.MethodKey.{MethodKey}
use Rattle.dalvik_defs.specs.declared.program.NamedClass.{NamedClass}
use Rattle.dalvik_defs.specs.declared.program.NamedProgram.{NamedProgram}
use Rattle.dalvik_defs.specs.declared.script.Move.{Move}
use Rattle.dalvik_defs.specs.declared.tables.Floats.{Floats}
use Rattle.dalvik_defs.specs.declared.tables.Framework.{Framework}
use Rattle.dalvik_defs.proofs.Same.{same_shown_on}
use Rattle.run_laws.specs.Holds.{Each}
use Rattle.name_bridge.proofs.Tables.{Sound}
use Rattle.pass_defs.specs.Loose.{static_class, staticised}
use Rattle.pass_defs.specs.Numbered.{tables_of}
use Rattle.pass_defs.specs.Typed.{IsTyped}
use Rattle.removal_law.specs.Left.{In}
use Rattle.removal_law.specs.Reach.{IsDescribed, NamesOnce, TellsApart}
use Rattle.removal_law.specs.Reach as reach
use Rattle.removal_law.proofs.OuterTables.{tables_agree}
use Rattle.removal_law.proofs.Protos.{told_apart}
use Rattle.removal_law.proofs.Trees.{defines_none}
use Rattle.removal_bridge.proofs.Formed.{no_object, regular_program as upright_program}
use Rattle.run_laws.specs.Regular.{IsRegular}
use Rattle.removal_bridge.proofs.TypedFormed as stuck
use Rattle.program_laws.specs.Remade.{Remethod, SameMethods, remade}
use Rattle.program_laws.proofs.Remade.{class_same, defines_same}
use Rattle.program_laws.proofs.Order.{order_shown}
use Rattle.static_law.specs.Receiving.{HoldNoNull, KnowsReceivers}
use Rattle.static_law.specs.Static.{AreInTables, IsSound, MayAllBeStatic, NamesDescribed, made_static}
use Rattle.static_law.proofs.Declared.{from_map}
use Rattle.static_law.proofs.Given.{sound as sound_names}
use Rattle.static_law.proofs.Told.{static_told}
use Rattle.static_law.proofs.Upright.{defines_once, names_once}
use Rattle.static_law.proofs.Ordered.{ordered_typed}
use Rattle.static_law.proofs.TypedWhole.{known_typed}
use Rattle.static_law.proofs.Whole.{known_static}
use Rattle.static_law.specs.Edited.{IsEdited, IsPlanned, loose_in}
use Rattle.static_law.proofs.Premises.{described, in_tables, names_described}
use Rattle.static_law.proofs.Programs.{named_now, new, same_methods}
use Rattle.static_law.specs.Kept.{IsMadeStatic}
use Rattle.static_law.proofs.Graph.{still_grounded, still_once, still_whole}
use Rattle.static_law.proofs.Outers.{outer_same, shuts_alike}
use Rattle.static_law.proofs.Shuts.{shuts_still}

module _ (given target : ℕ → Option ℕ) (p q : Program) (w : is_well_formed p ≡ true) (twice : (class : ℕ) → IsTwice p class → ⊥) (ancestor : (class : ℕ) → IsAncestor p class class → ⊥) (typed : IsTyped (named p))
    (edited : IsEdited given target p q) (planned : IsPlanned p given target) (o : Outside) (given_so : MayAllBeStatic (named p) (outer_of p o) (tables_of p).methods (loose_in p given)) where
  abbrev loose : MethodKey → Bool
  loose = loose_in p given

  abbrev static : NamedProgram
  static = staticised (named p) loose

  s : Sound p
  s = sound_tables p w

  tabled : AreInTables (named p) (outer_of p o) (tables_of p).methods
  tabled = in_tables p s o

  regular : IsRegular (named p)
  regular = stuck.regular_program p w twice typed

  upright : reach.IsRegular (named p)
  upright = upright_program p w twice ancestor

  parameters : IsDescribed (named p)
  parameters = described p s

  sound : IsSound (named p) loose
  sound = sound_names (named p) (outer_of p o) (tables_of p).methods loose given_so tabled

  tells : TellsApart static
  tells = static_told (named p) loose sound (defines_once (named p) regular) parameters (names_described p s)

  abbrev order : Remethod
  order = new given target p q s twice edited planned

  now : named q ≡ remade order static
  now = named_now given target p q s twice edited planned

  same : SameMethods order static
  same = same_methods given target p q s twice edited planned

  static_once : NamesOnce static
  static_once c i =
      let d = from_map (static_class (named p) loose) (named p).classes c i in
      class_same (made_static (named p) loose) (named p) c.name
      ∙ (ap (λ (x : NamedClass). option_map (static_class (named p) loose) (class_named (named p) x.name)) (sym d.image)
      ∙ (ap (option_map (static_class (named p) loose)) (names_once (named p) regular d.source d.is_in) ∙ ap Some d.image))

  pub typed_now : IsTyped (named q)
  typed_now = subst IsTyped (sym now) (ordered_typed order static tells static_once same
      (known_typed (named p) (outer_of p o) (tables_of p).methods loose given_so tabled regular upright parameters (defines_none (named p) object_type (no_object p w))))

  pub defines_now : defines (named q) ≡ defines (named p)
  defines_now = ap defines now ∙ (defines_same order static ∙ defines_same (made_static (named p) loose) (named p))

  module _ (not_null : MethodKey → ℕ → ℕ → Type 0) (knows : KnowsReceivers (named p) loose not_null)
      (no_null : (f : Framework) (a : Floats) (script : List Move) → Fit (named p) (outer_of p o) f script → HoldNoNull (named p) (outer_of p o) not_null f a script) where
    pub shown_now : SameShown (named p) (named q) (outer_of p o)
    shown_now = subst (λ x. SameShown (named p) x (outer_of p o)) (sym now)
        (same_shown_on (named p) static (remade order static) (outer_of p o)
        (λ t d. sym (ap (λ (f : Text → Bool). f t) (defines_same (made_static (named p) loose) (named p))) ∙ d)
        (known_static (named p) (outer_of p o) (tables_of p).methods not_null loose given_so tabled knows regular upright parameters (names_described p s) (tables_agree p o) no_null)
        (order_shown order static (outer_of p o) tells same))

    pub made_static_kept : NoSplit p → Each (λ n. given n ≡ None) o.methods → IsMadeStatic o p q
    made_static_kept whole free = record {
      holds = shuts_still given target p q s edited planned o given_so upright twice tabled (names_once (named p) regular) (told_apart (named p) parameters (defines_once (named p) regular)) tells free
          (shuts_alike given target p q s edited planned o given_so tabled twice sound (told_apart (named p) parameters (defines_once (named p) regular)));
      typed = typed_now;
      shown = shown_now;
      fewer = λ t d. sym (ap (λ (f : Text → Bool). f t) defines_now) ∙ d;
      once = still_once given target p q s edited twice;
      grounded = still_grounded given target p q s edited ancestor;
      whole = still_whole given target p q s edited whole;
      outer = outer_same given target p q s edited planned o free;
      shuts = shuts_alike given target p q s edited planned o given_so tabled twice sound (told_apart (named p) parameters (defines_once (named p) regular));
    }
