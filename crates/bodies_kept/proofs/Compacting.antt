-- A compacted program is well-formed.
use Rattle.std.proofs.Common.{◌≡◌, ℕ, zero, suc, ◌+◌, ◌<◌, Bool, true, false, List, [], ◌∷◌, map, Option, Some, None, refl, sym, ap, ◌∙◌, subst}
use Rattle.std.specs.Prelude.{◌&&◌, ◌||◌, slice_get, nat_eq, length, ◌-◌}
use Rattle.std.specs.List.{list_all, list_any, enumerate_from}
use Rattle.std.proofs.lemmas.Bool.{or_left, or_right}
use Rattle.lemmas.proofs.Bools.{and_right}
use Rattle.lemmas.proofs.Options.{some_same}
use Rattle.insn_set.specs.Registers.{reads_of, writes_of}
use Rattle.insn_set.specs.Spelling.{is_encodable}
use Rattle.insn_set.specs.declared.form.Insn.{Insn}
use Rattle.program_model.specs.Neighbours.{neighbours}
use Rattle.program_model.specs.BodyRules.{ends, follows, targets_fit, leaves, is_caught, insn_fits, body_fits}
use Rattle.program_model.specs.OperandRules.{registers_fit, numbers_fit}
use Rattle.program_model.specs.RegionRules.{may_begin, regions_fit}
use Rattle.program_model.specs.ProgramRules.{is_well_formed}
use Rattle.program_model.specs.declared.body.Body.{Body}
use Rattle.program_model.specs.declared.program.Class.{Class}
use Rattle.program_model.specs.declared.program.Method.{Method}
use Rattle.program_model.specs.declared.program.Program.{Program}
use Rattle.program_laws.proofs.ChangedLists.{and_left}
use Rattle.program_laws.specs.Others.{Pairwise}
use Rattle.form_laws.proofs.Asked.{any_front, any_back}
use Rattle.form_laws.proofs.Operands.{either, reads_below, writes_below}
use Rattle.insn_regs.specs.Remade.{remade}
use Rattle.insn_regs.specs.Wides.{widths_of, wides_read}
use Rattle.walk_marks.specs.Walks.{is_on}
use Rattle.body_graph.specs.Walks.{insn_at}
use Rattle.compact.specs.Packed.{wides_written}
use Rattle.compact.specs.Renamed.{HasRegisters, IsCompacted, IsCompactedMethod, IsCompactedClass, IsCompactedProgram}
use Rattle.compact.specs.Renamed as compacted
use Rattle.bodies_kept.proofs.CompactPrograms.{pairs}
use Rattle.thin_laws.specs.Rewritten.{IsRewritten, RewritesBody, RewrittenMethod, Untouched, Rewritten, RewrittenClass, RewrittenProgram}
use Rattle.thin_laws.proofs.Rewriting.{rewritten_formed}
use Rattle.bodies_kept.proofs.CompactRegisters.{fits}

pairs_mapped : {A : Type 0} (g : A → A) (R : A → A → Type 0) (xs : List A) → ((n : ℕ) (x : A) → slice_get xs n ≡ Some x → R x (g x)) → Pairwise R xs (map g xs)
pairs_mapped g R [] h = tt
pairs_mapped g R (x ∷ xs) h = (h 0 x refl, pairs_mapped g R xs (λ n y e. h (suc n) y e))

module _ (p : Program) (b : Body) (formed : body_fits p b ≡ true) where
  all_fit : list_all (insn_fits p b) (enumerate_from 0 b.insns) ≡ true
  unfolding body_fits
  all_fit = and_left (list_all (insn_fits p b) (enumerate_from 0 b.insns)) (regions_fit p b.insns b.regions) (and_right (list_all follows (neighbours b.insns)) (list_all (insn_fits p b) (enumerate_from 0 b.insns) && regions_fit p b.insns b.regions)
      (and_right (may_begin (slice_get b.insns 0) && ends (slice_get b.insns (length b.insns - 1))) (list_all follows (neighbours b.insns) && (list_all (insn_fits p b) (enumerate_from 0 b.insns) && regions_fit p b.insns b.regions)) formed))

  one_fits : (k : ℕ) (i : Insn) → insn_fits p b (k, i) ≡ true → registers_fit i b.registers ≡ true
  unfolding insn_fits
  one_fits k i h = and_left (registers_fit i b.registers) (numbers_fit i p) (and_right (is_encodable i) (registers_fit i b.registers && numbers_fit i p)
      (and_left (is_encodable i && (registers_fit i b.registers && numbers_fit i p)) (targets_fit b.insns i && (leaves k i && is_caught b.regions k i)) h))

  each_fits : (is : List Insn) (k n : ℕ) (i : Insn) → list_all (insn_fits p b) (enumerate_from k is) ≡ true → slice_get is n ≡ Some i → registers_fit i b.registers ≡ true
  each_fits [] k n i h e = absurd (cc)
  each_fits (j ∷ is) k zero i h e = subst (λ x. registers_fit x b.registers ≡ true) (some_same j i e) (one_fits k j (and_left (insn_fits p b (k, j)) (list_all (insn_fits p b) (enumerate_from (k + 1) is)) h))
  each_fits (j ∷ is) k (suc n) i h e = each_fits is (k + 1) n i (and_right (insn_fits p b (k, j)) (list_all (insn_fits p b) (enumerate_from (k + 1) is)) h) e

  -- instructions use the registers that the body has
  pub has_registers : HasRegisters b
  has_registers n r f h u =
      let k = each_fits b.insns 0 n f all_fit h in
      either (reads_of f r) (writes_of f r) u (λ e. reads_below b.registers r f k e) (λ e. writes_below b.registers r f k e)

  module _ (w : List (List Bool)) (d : Body) (c : IsCompacted w b d) where
    room : (n : ℕ) (i : Insn) → insn_at b n ≡ Some i → registers_fit (remade c.new c.new i) d.registers ≡ true
    room n i h = fits w c.new d.registers i
        (λ r e. c.room has_registers n r i h (or_left (reads_of i r) (writes_of i r) e))
        (λ r e. c.room has_registers n r i h (or_right (reads_of i r) (writes_of i r) e))
        (λ x e. c.pairs n x i h (any_back x (wides_written i) (wides_read w i) e))
        (λ x e. c.pairs n x i h (any_front x (wides_written i) (wides_read w i) e))

    pub compacted_rewrites : RewritesBody b d
    compacted_rewrites = record {
      insns = subst (λ l. Pairwise (IsRewritten b.registers d.registers) b.insns l) (sym c.insns)
          (pairs_mapped (remade c.new c.new) (IsRewritten b.registers d.registers) b.insns (λ n i h. record { reads = c.new; writes = c.new; form = refl; encodable = c.encodable n i h; registers = λ e. room n i h }));
      regions = c.regions;
      ins = c.ins;
      registers = c.registers;
      frame = c.frame;
    }

module _ (admitted : List Bool) (p : Program) where
  still : (m : Method) (o : Option Body) → o ≡ m.body → RewrittenMethod p m (record m { body = o })
  still m o e = subst (λ x. RewrittenMethod p m (record m { body = x })) (sym e) (Untouched m)

  by_code : (m : Method) (t : Bool) (a o : Option Body) → m.body ≡ a → compacted.RewritesBody (widths_of p) t a o → RewrittenMethod p m (record m { body = o })
  by_code m true (Some b) (Some d) e r = Rewritten m b d e (λ f. compacted_rewrites p b f (widths_of p) d r)
  by_code m true (Some b) None e r = absurd r
  by_code m true None (Some d) e r = still m (Some d) (r ∙ sym e)
  by_code m true None None e r = still m None (r ∙ sym e)
  by_code m false (Some b) (Some d) e r = still m (Some d) (r ∙ sym e)
  by_code m false (Some b) None e r = still m None (r ∙ sym e)
  by_code m false None (Some d) e r = still m (Some d) (r ∙ sym e)
  by_code m false None None e r = still m None (r ∙ sym e)

  method_rewritten : (m n : Method) → IsCompactedMethod (widths_of p) admitted m n → RewrittenMethod p m n
  method_rewritten m n i = subst (RewrittenMethod p m) (sym i.rest) (by_code m (is_on admitted m.name) m.body n.body refl i.body)

  class_rewritten : (c d : Class) → IsCompactedClass (widths_of p) admitted c d → RewrittenClass p c d
  class_rewritten c d i = record { same = i.rest; methods = pairs (IsCompactedMethod (widths_of p) admitted) (RewrittenMethod p) method_rewritten c.methods d.methods i.methods }

  pub compacted_formed : (q : Program) → is_well_formed p ≡ true → IsCompactedProgram admitted p q → is_well_formed q ≡ true
  compacted_formed q h i = rewritten_formed p q h (record { same = i.rest; classes = pairs (IsCompactedClass (widths_of p) admitted) (RewrittenClass p) class_rewritten p.classes q.classes i.classes })
