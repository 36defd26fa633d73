-- A compacted program is typed.
use Rattle.std.proofs.Common.{◌≡◌, inl, inr, ℕ, Bool, true, false, List, length, Option, Some, None, Contains, refl, sym, ap, ◌∙◌, subst}
use Rattle.program_model.specs.ProgramRules.{is_well_formed}
use Rattle.program_model.specs.declared.program.Program.{Program}
use Rattle.class_defs.specs.ClassGraph.{IsTwice}
use Rattle.dalvik_defs.specs.Names.{is_wide}
use Rattle.dalvik_defs.specs.Naming.{named}
use Rattle.dalvik_defs.specs.Silence.{key_in}
use Rattle.dalvik_defs.specs.declared.program.NamedBody.{NamedBody}
use Rattle.dalvik_defs.specs.declared.program.NamedClass.{NamedClass}
use Rattle.dalvik_defs.specs.declared.program.NamedMethod.{NamedMethod}
use Rattle.pass_defs.specs.Typed.{argument_kinds, Table, IsTyping, IsTyped}
use Rattle.program_laws.proofs.Named.{others_named}
use Rattle.program_laws.proofs.Typed.{others_typed}
use Rattle.form_laws.proofs.WellFormed.{well_formed_solid}
use Rattle.form_laws.specs.TypedRegisters.{IsTypedRenamed}
use Rattle.form_laws.proofs.TypedRenaming.{table, typed_renamed}
use Rattle.run_laws.specs.Regular.{IsRegular}
use Rattle.removal_bridge.proofs.TypedFormed.{regular_program}
use Rattle.compact.specs.Narrow.{has_narrow_classes}
use Rattle.compact.specs.Renamed.{IsCompactedProgram}
use Rattle.bodies_kept.specs.Renames.{Compacts}
use Rattle.bodies_kept.proofs.CompactPrograms.{program_compacts}
use Rattle.bodies_kept.specs.Packs.{PacksTo, Packs}
use Rattle.bodies_kept.proofs.Marking.{code_packs}
use Rattle.bodies_kept.proofs.Taking.{arguments_long, class_narrow}

module _ (p : Program) (fits : is_well_formed p ≡ true) (twice : (class : ℕ) → IsTwice p class → ⊥) (typed : IsTyped (named p)) where
  regular : IsRegular (named p)
  regular = regular_program p fits twice typed

  takes : (c : NamedClass) (m : NamedMethod) (b : NamedBody) → Contains (named p).classes c → Contains c.methods m → m.body ≡ Some b → length (argument_kinds (named p) c m) ≡ b.ins
  takes c m b i j e = arguments_long (named p) c m ∙ sym (regular.entries c m b i j e)

  narrow_name : (c : NamedClass) → Contains (named p).classes c → is_wide c.name ≡ false
  narrow_name c i = class_narrow c.name (regular.class_types c.name (ap (λ o. elim o as (λ o. Bool) [ Some d ↦ true | None ↦ false ]) (regular.named c i)))

  new_typed : (c : NamedClass) (m : NamedMethod) (d : NamedBody) → Contains (named p).classes c → Contains c.methods m → Packs (key_in c m) m.body (Some d) → (t : Table) × IsTyping (named p) c m d t
  new_typed c m d i j h = by m.body refl h
    where
      renewed : (b : NamedBody) → m.body ≡ Some b → PacksTo b d → (t : Table) × IsTyping (named p) c m d t
      renewed b e r =
          let t = typed.bodies c m b i j e in
          let h : IsTypedRenamed (named p) c m b d = record {
            new = r.new;
            renamed = r.renamed;
            solid = well_formed_solid p fits c m b i j e;
            marks = r.marks;
            table = t.0;
            typing = t.1;
            takes = takes c m b i j e;
            class = narrow_name c i;
            calls = r.calls;
          } in
          (table (named p) c m b d h, typed_renamed (named p) c m b d h)

      by : (o : Option NamedBody) → m.body ≡ o → Packs (key_in c m) o (Some d) → (t : Table) × IsTyping (named p) c m d t
      by None e h = absurd h
      by (Some b) e (inl s) = subst (λ x. (t : Table) × IsTyping (named p) c m x t) (sym s) (typed.bodies c m b i j e)
      by (Some b) e (inr f) = renewed b e (f (well_formed_solid p fits c m b i j e).room)

  pub compacted_typed : (narrow : has_narrow_classes p ≡ true) (admitted : List Bool) (q : Program) → IsCompactedProgram admitted p q → IsTyped (named q)
  compacted_typed narrow admitted q i = others_typed Packs (named p) (named q) (others_named (Compacts p) Packs p (code_packs p narrow) q (program_compacts admitted p q i)) new_typed
