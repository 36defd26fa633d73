-- The reads for which a Move stands, and stale reads, by number and by name.
use Rattle.std.proofs.Common.{◌≡◌, ℕ, ◌≤◌, List, Some, Contains, sym, ap, ◌∙◌, subst}
use Rattle.std.specs.Prelude.{pos}
use Rattle.insn_set.specs.Spelling.{is_encodable, units_of}
use Rattle.insn_set.specs.declared.ops.Slot.{Slot}
use Rattle.insn_set.specs.declared.form.Insn.{Insn}
use Rattle.program_model.specs.declared.body.Body.{Body}
use Rattle.program_model.specs.declared.program.Program.{Program}
use Rattle.dalvik_defs.specs.declared.forms.Form.TheVariants as form
use Rattle.dalvik_defs.specs.Naming.{form_of, body_of}
use Rattle.insn_regs.specs.Wides.{widths_of}
use Rattle.pass_defs.specs.Bare.{bare}
use Rattle.pass_defs.specs.Stale as named
use Rattle.copy_prop.specs.Stale as numbered
use Rattle.removal_bridge.proofs.WalkedForms.{same_successors}
use Rattle.removal_bridge.proofs.Walked.{reached_by_number}
use Rattle.bodies_kept.proofs.Remaking.{remade_by_number, same_encodable, still_short, still_short_back}
use Rattle.bodies_kept.proofs.Forms.{IsOf, insn_for, form_for, move_of, cast_same, reads_as_same, spoilt_to, spoilt_from}
use Rattle.bodies_kept.proofs.Reading.{read_at_from}

module _ (p : Program) (b : Body) (at : ℕ) (slot : Slot) (to from n : ℕ) (i : Insn) where
  reading_same : form_of p (numbered.reading slot to from i) ≡ named.reading slot to from (form_of p i)
  reading_same = remade_by_number p (numbered.instead slot to from) (λ r. r) i

  encodable_same : is_encodable (bare (named.reading slot to from (form_of p i))) ≡ is_encodable (numbered.reading slot to from i)
  encodable_same = ap (λ f. is_encodable (bare f)) (sym reading_same) ∙ same_encodable p (numbered.reading slot to from i)

  pub stands_by_name : numbered.StandsFor (widths_of p) b at slot to from n i → named.StandsFor (body_of p b) at slot to from n (form_of p i)
  stands_by_name s = record {
    reached = (reached_by_number p b n).1 s.reached;
    kept = λ k. s.kept (spoilt_to p b at slot to from n k);
    apart = s.apart;
    read = reads_as_same p slot i to ∙ s.read;
    plain = cast_same p i ∙ s.plain;
    encodable = encodable_same ∙ s.encodable;
    short = subst (λ f. units_of (bare f) (pos 0) ≤ units_of (bare (form_of p i)) (pos 0)) reading_same (still_short p (numbered.instead slot to from) i s.short);
  }

  pub stands_by_number : named.StandsFor (body_of p b) at slot to from n (form_of p i) → numbered.StandsFor (widths_of p) b at slot to from n i
  stands_by_number s = record {
    reached = (reached_by_number p b n).0 s.reached;
    kept = λ k. s.kept (spoilt_from p b at slot to from n k);
    apart = s.apart;
    read = sym (reads_as_same p slot i to) ∙ s.read;
    plain = sym (cast_same p i) ∙ s.plain;
    encodable = sym encodable_same ∙ s.encodable;
    short = still_short_back p (numbered.instead slot to from) i (subst (λ f. units_of (bare f) (pos 0) ≤ units_of (bare (form_of p i)) (pos 0)) (sym reading_same) s.short);
  }

worth_by_number : (p : Program) (b : Body) (at : ℕ) (slot : Slot) (to from : ℕ) → named.IsWorthIt (body_of p b) at slot to from → numbered.IsWorthIt (widths_of p) b at slot to from
worth_by_number p b at slot to from (named.Lower lt) = numbered.Lower lt
worth_by_number p b at slot to from (named.All h) = numbered.All (λ r m n i e c d g.
    stands_by_number p b at slot to from n i (h r m n (form_of p i) e (subst (λ (l : List ℕ). Contains l m) (sym (same_successors p b at)) c) (read_at_from p b r m n d) (form_for p b n i g)))

pub stale_by_number : (p : Program) (b : Body) (n : ℕ) → named.IsStale (body_of p b) n → numbered.IsStale (widths_of p) b n
stale_by_number p b n s =
    let w : IsOf p b n s.form = insn_for p b n s.form s.has_form in
    let m : IsOf p b s.at (form.Move s.copy.slot s.copy.to s.copy.from) = insn_for p b s.at (form.Move s.copy.slot s.copy.to s.copy.from) s.copy.stands in
    record {
      at = s.at;
      slot = s.copy.slot;
      to = s.copy.to;
      from = s.copy.from;
      form = w.insn;
      has_form = w.has_insn;
      by = record {
        copy = m.has_insn ∙ ap Some (move_of p m.insn s.copy.slot s.copy.to s.copy.from m.same);
        stands = stands_by_number p b s.at s.copy.slot s.copy.to s.copy.from n w.insn (subst (λ f. named.StandsFor (body_of p b) s.at s.copy.slot s.copy.to s.copy.from n f) (sym w.same) s.stands);
        worth = worth_by_number p b s.at s.copy.slot s.copy.to s.copy.from s.worth;
      };
    }
