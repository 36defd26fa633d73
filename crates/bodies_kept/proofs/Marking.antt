-- A compacted body by name, with a test of what is read and without calls of methods of wide types.
use Rattle.std.proofs.Common.{◌≡◌, ◌⊎◌, inl, inr, ℕ, zero, suc, ◌<◌, Bool, true, false, true≢false, List, [], ◌∷◌, Option, Some, None, refl, sym, ap, ◌∙◌, subst, lt-ltb, ltb-true}
use Rattle.std.specs.Prelude.{◌&&◌, ◌||◌, not, nat_lt, slice_get}
use Rattle.std.specs.List.{list_all}
use Rattle.std.specs.Option.{option_map}
use Rattle.std.proofs.lemmas.Bool.{or_left}
use Rattle.lemmas.proofs.Bools.{and_right, not_true}
use Rattle.lemmas.proofs.Lists.{all_at}
use Rattle.insn_set.specs.declared.form.Insn.{Insn}
use Rattle.insn_set.specs.declared.form.Insn.TheVariants as insn
use Rattle.program_model.specs.declared.body.Body.{Body}
use Rattle.program_model.specs.declared.pools.MethodName.{MethodName}
use Rattle.program_model.specs.declared.program.Program.{Program}
use Rattle.dalvik_defs.specs.Names.{is_wide}
use Rattle.dalvik_defs.specs.Naming.{text_at, type_at, signature_at, method_at, form_of, body_of}
use Rattle.dalvik_defs.specs.declared.forms.Form.{Form}
use Rattle.dalvik_defs.specs.declared.names.MethodKey.{MethodKey}
use Rattle.pass_defs.specs.Bare.{reads, writes}
use Rattle.pass_defs.specs.Walks.{form_at, IsRead}
use Rattle.program_laws.proofs.ChangedLists.{and_left, and_both}
use Rattle.form_laws.specs.Kinds.{HasNarrowClass}
use Rattle.form_laws.specs.Solid.{HasRoom}
use Rattle.form_laws.proofs.Reading.{reads_some}
use Rattle.form_laws.specs.TypedRegisters.{Marks}
use Rattle.insn_regs.specs.Wides.{is_wide_type, widths_of}
use Rattle.bodies_kept.proofs.Widths.{wide_same}
use Rattle.removal_bridge.proofs.Walked.{read_by_number}
use Rattle.compact.specs.Narrow.{has_narrow_classes}
use Rattle.compact.specs.Renamed.{HasRegisters, IsCompacted}
use Rattle.bodies_kept.specs.Renames.{Compacts}
use Rattle.bodies_kept.proofs.Bodies.{renamed_by_number}
use Rattle.bodies_kept.proofs.Conflicts.{IsOf, insn_for}
use Rattle.bodies_kept.proofs.CompactPrograms.{registers_of}
use Rattle.bodies_kept.specs.Packs.{PacksTo, Packs}

-- ---- calls

abbrev key_for : Program → Option MethodName → MethodKey
key_for p o = elim o [
  | Some m ↦ record { class = type_at p m.class; name = text_at p m.name; signature = signature_at p m.proto }
  | None ↦ record { class = []; name = []; signature = record { parameters = []; result = [] } }
]

module _ (p : Program) (narrow : has_narrow_classes p ≡ true) where
  narrow_for : (o : Option MethodName) → ((m : MethodName) → o ≡ Some m → is_wide_type p m.class ≡ false) → is_wide (key_for p o).class ≡ false
  narrow_for None h = refl
  narrow_for (Some m) h = wide_same p m.class ∙ h m refl

  narrow_class : (k : ℕ) → is_wide (method_at p k).class ≡ false
  narrow_class k = narrow_for (slice_get p.methods k) (λ m e. not_true (is_wide_type p m.class) (all_at (λ m. not (is_wide_type p m.class)) p.methods k m narrow e))

  narrow_insn : (i : Insn) → HasNarrowClass (form_of p i)
  narrow_insn (insn.Invoke kind method args) = narrow_class method
  narrow_insn insn.Nop = tt
  narrow_insn i = tt

  calls : (b : Body) (n : ℕ) (f : Form) → form_at (body_of p b) n ≡ Some f → HasNarrowClass f
  calls b n f h = let i : IsOf p b n f = insn_for p b n f h in subst HasNarrowClass i.same (narrow_insn i.insn)

-- ---- reads

module _ (p : Program) (b d : Body) (room : HasRoom (body_of p b)) (c : IsCompacted (widths_of p) b d) where
  marked : ℕ → ℕ → Bool
  marked n r = nat_lt r b.registers && c.live n r

  pub marks : Marks (body_of p b)
  unfolding marked
  marks = record {
    live = marked;
    is_live = λ n r. (
      λ e. (read_by_number p b r n).1 ((c.is_live n r (ltb-true r b.registers (and_left (nat_lt r b.registers) (c.live n r) e))).0 (and_right (nat_lt r b.registers) (c.live n r) e)),
      λ i.
          let u = reads_some (body_of p b) r n i.0 i.1 in
          let lt = room u.0 u.1.0 r u.1.1.0 (or_left (reads u.1.0 r) (writes u.1.0 r) u.1.1.1) in
          and_both (nat_lt r b.registers) (c.live n r) (lt-ltb r b.registers lt) ((c.is_live n r lt).1 ((read_by_number p b r n).0 i)),
    );
  }

-- ---- code

module _ (p : Program) (narrow : has_narrow_classes p ≡ true) where
  packs_to : (b d : Body) → IsCompacted (widths_of p) b d → HasRoom (body_of p b) → PacksTo (body_of p b) (body_of p d)
  packs_to b d c room =
      let has : HasRegisters b = registers_of p b room in
      let r = renamed_by_number p b d has c in
      record { new = r.0; renamed = r.1; marks = marks p b d room c; calls = calls p narrow b }

  pub code_packs : (k : MethodKey) (a o : Option Body) → Compacts p k a o → Packs k (option_map (body_of p) a) (option_map (body_of p) o)
  code_packs k (Some b) (Some d) (inl c) = inr (packs_to b d c)
  code_packs k (Some b) (Some d) (inr e) = inl (ap (body_of p) e)
  code_packs k (Some b) None h = absurd h
  code_packs k None (Some d) h = absurd h
  code_packs k None None h = tt
