-- A limit for which a file is refused is passed.
use Rattle.std.proofs.Common.{◌≡◌, ◌≤◌, inl, inr, ℕ, suc, ◌+◌, ◌-◌, List, Option, Some, None, Ok, arith}
use Rattle.program_model.specs.Limits.{limit_of}
use Rattle.program_model.specs.InterfaceRules.{stands_free}
use Rattle.program_model.specs.declared.limits.Counted.TheVariants.{Cells, Items}
use Rattle.program_model.specs.declared.limits.LimitFault.{LimitFault}
use Rattle.program_model.specs.declared.program.Program.{Program}
use Rattle.dex_defs.specs.Limits.{IsItem, Counts, IsPast}
use Rattle.dex_defs.specs.Limits as limits
use Rattle.dex_read.specs.declared.members.Budget.{Budget}
use Rattle.dex_read.specs.File.{head_at, classes_at, program_at}
use Rattle.dex_read.specs.Standing.{standing_at}
use Rattle.read_laws.proofs.Bounds.{AreBytes}
use Rattle.refused_law.proofs.Failing.{Fails, sound, fails_next, fails_more}
use Rattle.past_law.specs.Told.{Told}
use Rattle.past_law.proofs.Budgets.{On}
use Rattle.past_law.proofs.Classes.{InClass, ClassesPass, fails_classes}
use Rattle.past_law.proofs.Members.{plain_stands}
use Rattle.past_law.proofs.Names.{sort_of}
use Rattle.past_law.proofs.Tables.{IsPastIn, plain_past, fails_head, took_head}
use Rattle.past_law.proofs.Taking.{limit_of_dex, OneOf}
use Rattle.past_law.proofs.Told.{together, other, fewer, is_past}

module _ (bytes : List ℕ) (are : AreBytes bytes) where
  module _ (p : Program) (left : ℕ) (head : head_at bytes ≡ Ok (p, left)) where
    abbrev budget : Budget
    budget = record { items = left; cells = 0 }

    -- protos are no classes
    no_class : (count : ℕ) (w : List ℕ) → sort_of w ≡ 0 → OneOf InClass 0 count w → ⊥
    no_class count w e o = let low = o.is.0 in omega (arith, e, low)

    all_items : (count : ℕ) → Told (IsItem bytes) (OneOf InClass 0 count) (suc left) → Told (IsItem bytes) (λ w. Unit {0}) ((16777216 - left) + suc left)
    all_items count told = together ((took_head bytes).found (p, left) head) told (no_class count) (λ w a. tt) (λ w b. tt)

    passed : (fault : LimitFault) → ClassesPass bytes are p left head budget fault → IsPast bytes fault
    passed fault (count, inl (e, told)) = let enough : 16777216 + 1 ≤ (16777216 - left) + suc left = omega arith in
        is_past bytes Items (fewer (limit_of Items + 1) (other {Are = Counts bytes Items} (all_items count told) (λ w is. limits.AnItem w is)) enough) fault e
    passed fault (count, inr (e, told)) = let enough : 67108864 + 1 ≤ suc 67108864 - 0 = omega arith in
        is_past bytes Cells (fewer (limit_of Cells + 1) (other {Are = Counts bytes Cells} told (λ w is. limits.ACell w is)) enough) fault e

    by_limit : (o : Option LimitFault) → On (ClassesPass bytes are p left head budget) o → IsPastIn bytes o
    by_limit None h = tt
    by_limit (Some fault) h = passed fault h

    fails_its_classes : Fails (λ e. IsPastIn bytes (limit_of_dex e)) (classes_at bytes p budget)
    fails_its_classes = fails_more (λ e h. by_limit (limit_of_dex e) h) (fails_classes bytes are p left head budget)

  pub fails_program : Fails (λ e. IsPastIn bytes (limit_of_dex e)) (program_at bytes)
  unfolding program_at standing_at
  fails_program =
      fails_next (fails_head bytes) (λ tables h.
      fails_next (fails_its_classes tables.0 tables.1 h) (λ classes _.
      fails_next (plain_past bytes (plain_stands (stands_free (record tables.0 { classes = classes })) 0 classes)) (λ stands _. sound (record tables.0 { classes = classes }))))
