-- A propagated body reads originals, by name.
use Rattle.std.proofs.Common.{◌≡◌, ℕ, zero, suc, ◌+◌, ◌<◌, true, List, [], ◌∷◌, map, length, Some, None, nat_eq, refl, ap, ◌∙◌, subst, arith}
use Rattle.std.specs.Prelude.{◌&&◌, ◌||◌, if◌then◌else◌, All, slice_get}
use Rattle.std.proofs.lemmas.List.Elements.{All-nil, All-cons, All-head, All-tail}
use Rattle.std.proofs.lemmas.Bool.{or_left, or_right, eq-eqb}
use Rattle.insn_set.specs.Registers.{writes_of}
use Rattle.insn_set.specs.Widths.{is_wide_slot}
use Rattle.insn_set.specs.declared.ops.Slot.TheVariants.{Wide}
use Rattle.insn_set.specs.declared.form.Insn.{Insn}
use Rattle.insn_set.specs.declared.form.Insn.TheVariants as insn
use Rattle.program_model.specs.declared.body.Body.{Body}
use Rattle.program_model.specs.declared.program.Program.{Program}
use Rattle.dalvik_defs.specs.declared.forms.Form.{Form}
use Rattle.dalvik_defs.specs.Naming.{form_of, body_of, region_of}
use Rattle.insn_regs.specs.Wides.{widths_of}
use Rattle.body_graph.specs.Walks.{insn_at}
use Rattle.pass_defs.specs.Walks.{form_at}
use Rattle.copy_prop.specs.Stale.{IsStaleBy}
use Rattle.insn_set.specs.declared.ops.Slot.{Slot}
use Rattle.copy_prop.specs.Rereading.{IsReread}
use Rattle.copy_prop.specs.Rereading as pass
use Rattle.form_laws.specs.Reread as law
use Rattle.bodies_kept.proofs.Remaking.{remade_by_number, remade_alike}
use Rattle.bodies_kept.proofs.Forms.{IsOf, insn_for, form_for, no_form, no_insn}
use Rattle.bodies_kept.proofs.Stands.{stands_by_name, stale_by_number}
use Rattle.bodies_kept.specs.CopyBridged.{ReadsByNumber, SettlesByNumber, PairsByNumber}

-- copies as the pass lists them, by what it asks of one
module _ {C : Type 0} (sub : List C → ℕ → ℕ) (at : C → ℕ) (slot : C → Slot) (to from : C → ℕ) (none : (r : ℕ) → sub [] r ≡ r)
    (more : (c : C) (cs : List C) (r : ℕ) → sub (c ∷ cs) r ≡ (if nat_eq r (to c) then from c else if is_wide_slot (slot c) && nat_eq r (to c + 1) then from c + 1 else sub cs r)) where
  abbrev all_law : List C → List law.Copied
  all_law cs = map (λ c. record { at = at c; slot = slot c; to = to c; from = from c }) cs

  substituted_same : (cs : List C) (r : ℕ) → sub cs r ≡ law.substituted (all_law cs) r
  substituted_same [] r = none r
  substituted_same (c ∷ cs) r = more c cs r ∙ ap (λ x. if nat_eq r (to c) then from c else if is_wide_slot (slot c) && nat_eq r (to c + 1) then from c + 1 else x) (substituted_same cs r)

  stand : (p : Program) (b : Body) (n : ℕ) (i : Insn) (cs : List C) → All (λ c. IsStaleBy (widths_of p) b n i (at c) (slot c) (to c) (from c)) cs → All (law.StandsThere (body_of p b) n (form_of p i)) (all_law cs)
  stand p b n i [] a = All-nil (law.StandsThere (body_of p b) n (form_of p i))
  stand p b n i (c ∷ cs) a =
      let first : IsStaleBy (widths_of p) b n i (at c) (slot c) (to c) (from c) = All-head (λ c. IsStaleBy (widths_of p) b n i (at c) (slot c) (to c) (from c)) c cs a in
      All-cons (law.StandsThere (body_of p b) n (form_of p i)) (record { at = at c; slot = slot c; to = to c; from = from c }) (all_law cs)
      (record { copy = form_for p b (at c) (insn.Move (slot c) (to c) (from c)) first.copy; stands = stands_by_name p b (at c) (slot c) (to c) (from c) n i first.stands })
      (stand p b n i cs (All-tail (λ c. IsStaleBy (widths_of p) b n i (at c) (slot c) (to c) (from c)) c cs a))

reread_by_name : (p : Program) (b : Body) (n : ℕ) (i g : Insn) → IsReread (widths_of p) b n i g → law.IsReread (body_of p b) n (form_of p i) (form_of p g)
reread_by_name p b n i g s =
    let copies : List law.Copied = all_law pass.substituted (λ c. c.at) (λ c. c.slot) (λ c. c.to) (λ c. c.from) (λ r. refl) (λ c cs r. refl) s.copies in
    record {
      copies = copies;
      stale = stand pass.substituted (λ c. c.at) (λ c. c.slot) (λ c. c.to) (λ c. c.from) (λ r. refl) (λ c cs r. refl) p b n i s.copies s.stale;
      form = ap (form_of p) (s.form ∙ remade_alike (pass.substituted s.copies) (law.substituted copies) (λ r. r) (substituted_same pass.substituted (λ c. c.at) (λ c. c.slot) (λ c. c.to) (λ c. c.from) (λ r. refl) (λ c cs r. refl) s.copies) i)
          ∙ remade_by_number p (law.substituted copies) (λ r. r) i;
    }

pub reads_by_number : ReadsByNumber
reads_by_number p b d s = record {
  forms = forms;
  ends = ends;
  regions = ap (map (region_of p)) s.regions;
  registers = s.registers;
  ins = s.ins;
}
  where
    forms : (n : ℕ) (f : Form) → form_at (body_of p b) n ≡ Some f → (g : Form) × ((form_at (body_of p d) n ≡ Some g) × law.IsReread (body_of p b) n f g)
    forms n f h =
        let w : IsOf p b n f = insn_for p b n f h in
        let u : (g : Insn) × (insn_at d n ≡ Some g) × IsReread (widths_of p) b n w.insn g = s.insns n w.insn w.has_insn in
        (form_of p u.0, (form_for p d n u.0 u.1, subst (λ x. law.IsReread (body_of p b) n x (form_of p u.0)) w.same (reread_by_name p b n w.insn u.0 u.2)))

    gone : (xs ys : List Insn) (n : ℕ) → length ys ≡ length xs → slice_get xs n ≡ None → slice_get ys n ≡ None
    gone [] [] n e h = refl
    gone [] (y ∷ ys) n e h = absurd (omega (arith, e))
    gone (x ∷ xs) [] n e h = refl
    gone (x ∷ xs) (y ∷ ys) zero e h = absurd (cc)
    gone (x ∷ xs) (y ∷ ys) (suc n) e h = gone xs ys n (omega (arith, e)) h

    ends : (n : ℕ) → form_at (body_of p b) n ≡ None → form_at (body_of p d) n ≡ None
    ends n h = no_insn p d n (gone b.insns d.insns n s.long (no_form p b n h))

pub settles_by_number : SettlesByNumber
settles_by_number p b d pairs s same n stale = s.settled same pairs n (stale_by_number p b n stale)

pub pairs_by_number : PairsByNumber
pairs_by_number b small room at to from copy =
    let read : (nat_eq (from + 1) from || nat_eq (from + 1) (from + 1)) ≡ true = or_right (nat_eq (from + 1) from) (nat_eq (from + 1) (from + 1)) (eq-eqb (from + 1) (from + 1) refl) in
    let below : from + 1 < b.registers = room at (from + 1) (insn.Move Wide to from) copy (or_left (nat_eq (from + 1) from || nat_eq (from + 1) (from + 1)) (writes_of (insn.Move Wide to from) (from + 1)) read) in
    omega (arith, below, small)
