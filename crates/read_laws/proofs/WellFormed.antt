-- What is read is well-formed.
use Rattle.std.proofs.Common.{◌≡◌, ℕ, ◌+◌, ◌*◌, true, List, [], Ok, refl, sym, subst, ◌∙◌}
use Rattle.std.specs.List.{list_all}
use Rattle.std.proofs.lemmas.Bool.{le-leb}
use Rattle.lemmas.proofs.Lists.{all_more}
use Rattle.program_model.specs.Cells.{cells_of}
use Rattle.program_model.specs.Items.{items_of}
use Rattle.program_model.specs.MemberRules.{class_fits}
use Rattle.program_model.specs.ProgramRules.{is_well_formed}
use Rattle.program_model.specs.declared.program.Class.{Class}
use Rattle.program_model.specs.declared.program.Program.{Program}
use Rattle.program_model.proofs.Formed.{well_formed}
use Rattle.table_rules.proofs.Tables.{class_same}
use Rattle.dex_read.specs.File.{class_in, table_at, classes_at, program_at}
use Rattle.dex_read.specs.Header.{need_at}
use Rattle.dex_read.specs.Word.{word_at}
use Rattle.dex_read.specs.declared.members.Budget.{Budget}
use Rattle.read_laws.proofs.Bounds.{AreBytes}
use Rattle.read_laws.proofs.ClassReading.{all_of}
use Rattle.read_laws.proofs.Conjuncts.{all_tables_fit}
use Rattle.read_laws.proofs.Counting.{few_cells}
use Rattle.read_laws.proofs.Interfaces.{all_stand_free}
use Rattle.read_laws.proofs.ItemCounting.{few_items}
use Rattle.read_laws.proofs.MemberReading.{class_is}
use Rattle.read_laws.proofs.Readings.{Reads, anything, weaker, done, either, next, reads_run}
use Rattle.read_laws.proofs.Told.{is_read}

abbrev AllFit : Program → List Class → Type 0
AllFit p cs = list_all (class_fits p) cs ≡ true

module _ (bytes : List ℕ) (are : AreBytes bytes) (p : Program) where
  reads_class : (offset i : ℕ) (left : Budget) → Reads (λ r. class_fits p r.0 ≡ true) (class_in bytes p offset i left)
  reads_class offset i left = record { found = λ r h. class_is bytes p (offset + 32 * i) i left r h are }

  reads_table : (count offset : ℕ) (left : Budget) → Reads (λ r. AllFit p r.0) (table_at bytes p count offset left)
  unfolding table_at
  reads_table count offset left = either
      (λ _. weaker (Ok ([], left)) (done ([], left)) (λ y e. subst (λ (r : List Class × Budget). AllFit p r.0) (sym e) refl))
      (λ _. weaker _ (next (anything (need_at bytes offset (32 * count))) (λ whole _. reads_run (λ i s r. class_fits p r.0 ≡ true) (class_in bytes p offset) (reads_class offset) 0 count left))
      (λ y q. all_of (class_fits p) (λ i s r. class_fits p r.0 ≡ true) (λ i s r h. h) 0 left y.0 y.1 q.2))

  reads_classes : (left : Budget) → Reads (AllFit p) (classes_at bytes p left)
  unfolding classes_at
  reads_classes left = weaker (classes_at bytes p left)
      (next (anything (word_at bytes 96)) (λ count _. next (anything (word_at bytes 100)) (λ offset _. next (reads_table count offset left) (λ cs _. done cs.0))))
      (λ y q. subst (AllFit p) (sym q.2.2.2) q.2.2.1)

-- each class fits the program that has them all, since its tables alone are asked for
all_fit : (bytes : List ℕ) (p : Program) → AreBytes bytes → program_at bytes ≡ Ok p → AllFit p p.classes
all_fit bytes p are h =
    let r = is_read bytes p h in
    subst (λ (q : Program). AllFit q q.classes) (sym r.is)
    (all_more (class_fits r.tables) (class_fits (record r.tables { classes = r.classes })) (λ c e. class_same r.tables r.classes c ∙ e) r.classes
    ((reads_classes bytes are r.tables (record { items = r.left; cells = 0 })).found r.classes r.filled))

pub well_formed_read : (bytes : List ℕ) (p : Program) → AreBytes bytes → program_at bytes ≡ Ok p → is_well_formed p ≡ true
well_formed_read bytes p are h = well_formed p (record {
  tables = all_tables_fit bytes p are h;
  cells = le-leb (cells_of p) 67108864 (few_cells bytes p h);
  items = le-leb (items_of p) 16777216 (few_items bytes p h);
  stands = all_stand_free bytes p h;
  classes = all_fit bytes p are h;
})
