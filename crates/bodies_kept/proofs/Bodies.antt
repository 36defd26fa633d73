-- A compacted body by name.
use Rattle.std.proofs.Common.{◌≡◌, ℕ, List, [], ◌∷◌, map, nat_eq, refl, sym, ap, ap₂, ◌∙◌}
use Rattle.std.specs.Prelude.{◌&&◌}
use Rattle.std.specs.List.{list_any}
use Rattle.insn_set.specs.declared.form.Insn.{Insn}
use Rattle.program_model.specs.declared.program.Program.{Program}
use Rattle.dalvik_defs.specs.Naming.{form_of, region_of}
use Rattle.insn_regs.specs.Remade as remake
use Rattle.pass_defs.specs.Remade as renew
use Rattle.pass_defs.specs.Packed as named
use Rattle.removal_bridge.proofs.Walked.{read_by_number}
use Rattle.bodies_kept.proofs.Remaking.{remade_by_number}
use Rattle.bodies_kept.proofs.Tests.{wides_same, uses_same, used_same, free_same}
use Rattle.bodies_kept.proofs.Conflicts.{IsOf, insn_for, conflict_to, conflict_from}
use Rattle.bodies_kept.specs.CompactBridged.{RenamedByNumber, PackedByNumber, SettlesByNumber}

all_remade : (p : Program) (new : ℕ → ℕ) (is : List Insn) → map (form_of p) (map (remake.remade new new) is) ≡ map (renew.remade new new (λ t. t)) (map (form_of p) is)
all_remade p new [] = refl
all_remade p new (i ∷ is) = ap₂ (λ x xs. x ∷ xs) (remade_by_number p new new i) (all_remade p new is)

pub renamed_by_number : RenamedByNumber
renamed_by_number p b d has c = (
  c.new,
  record {
    forms = ap (map (form_of p)) c.insns ∙ all_remade p c.new b.insns;
    regions = ap (map (region_of p)) c.regions;
    ins = c.ins;
    apart = λ r s k e. c.apart r s (conflict_to p b r s k) e;
    pairs = λ n f w h e. let i : IsOf p b n f = insn_for p b n f h in c.pairs n w i.insn i.has_insn (ap (list_any (nat_eq w)) (sym (wides_same p i.insn) ∙ ap named.wides_of i.same) ∙ e);
    room = λ n f r h e. let i : IsOf p b n f = insn_for p b n f h in c.room has n r i.insn i.has_insn (sym (uses_same p r i.insn) ∙ ap (λ g. named.uses g r) i.same ∙ e);
    plain = λ r lt k. c.plain r lt ((read_by_number p b r 0).0 k);
    arguments = λ i lt k. c.arguments i;
  },
)

pub packed_by_number : PackedByNumber
packed_by_number p b h = record {
  least = λ r s lt e l. conflict_from p b r s (h.least r s lt (ap₂ (λ x y. x && y) (sym (used_same p b r)) (sym (free_same p b r)) ∙ e) l);
  greatest = λ r e. used_same p b r ∙ h.greatest r e;
}

pub settles_by_number : SettlesByNumber
settles_by_number p b d c same = packed_by_number p b (c.settled same)
