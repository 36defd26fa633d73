-- The program that is read is the one that the bytes spell.
use Rattle.std.proofs.Common.{◌≡◌, ◌≤◌, ◌<◌, ◌^◌, ℕ, ◌+◌, ◌*◌, List, [], length, Ok, refl, sym, ap, subst, ◌∙◌, arith}
use Rattle.std.proofs.lemmas.Bool.{eqb-true}
use Rattle.dex_base.specs.Decides.{Entries}
use Rattle.program_model.specs.declared.program.Class.{Class}
use Rattle.program_model.specs.declared.program.Program.{Program}
use Rattle.program_model.specs.declared.program.Version.{Version}
use Rattle.dex_pools.specs.declared.header.Extent.{Extent}
use Rattle.dex_pools.specs.declared.pools.Pools.{Pools}
use Rattle.dex_pools.specs.Spelled.{SpellsPools, IsExtent}
use Rattle.dex_defs.specs.ClassDefs.{IsClass}
use Rattle.dex_defs.specs.Header.{IsHeader}
use Rattle.dex_defs.specs.Spells.{Spells}
use Rattle.dex_read.specs.declared.members.Budget.{Budget}
use Rattle.dex_read.specs.File.{tables_with, class_in, table_at, classes_at, program_at}
use Rattle.dex_read.specs.Tables.{sizes_in}
use Rattle.file_laws.specs.Founds.{Founds}
use Rattle.file_laws.proofs.Founding.{known, weaker, done, either, next, founds_run}
use Rattle.file_laws.specs.Tables.{IsHead}
use Rattle.file_laws.proofs.Tables.{finds_head}
use Rattle.file_laws.proofs.Words.{finds_word, finds_need}
use Rattle.read_laws.proofs.Bounds.{AreBytes, word_below}
use Rattle.read_laws.proofs.Told.{IsRead, is_read}
use Rattle.spelled_law.proofs.Classes.{founds_class}
use Rattle.spelled_law.proofs.Values.{each_of}

-- classes of a table at this offset
module _ (bytes : List ℕ) (few : length bytes < 2 ^ 32) (p : Program) (cs : List Class) where
  abbrev q : Program
  q = record p { classes = cs }

  abbrev IsIn : ℕ → ℕ → Class → Type 0
  IsIn offset i c = IsClass bytes q (sizes_in p) (offset + 32 * i) c

  record AreIn (count offset : ℕ) (read : List Class) : Type 0 where
    inside : 0 < count → offset + 32 * count ≤ length bytes
    entries : Entries count (IsIn offset) read

  founds_table : (count offset : ℕ) (left : Budget) → Founds (λ r. AreIn count offset r.0) (table_at bytes p count offset left)
  unfolding table_at
  founds_table count offset left = either
      (λ e. weaker (Ok ([], left)) (done ([], left)) (λ y h. subst (λ (r : List Class × Budget). AreIn count offset r.0) (sym h) (empty (eqb-true count 0 e))))
      (λ e. weaker _ (next (known (finds_need bytes offset (32 * count))) (λ whole _. founds_run (λ i s r. IsIn offset i r.0) (class_in bytes p offset) (λ i s. founds_class bytes few p cs (offset + 32 * i) i s) 0 count left))
      (λ y h. record { inside = λ some. h.1; entries = (h.2.0, each_of (IsIn offset) 0 left y.0 y.1 h.2.1) }))
    where
      empty : count ≡ 0 → AreIn count offset []
      empty none = record { inside = λ some. absurd (omega (arith, some, none)); entries = (sym none, tt) }

  pub record AreClasses (read : List Class) : Type 0 where
    pub table : Extent
    pub stands : IsExtent bytes 96 32 table
    pub classes : Entries table.size (IsIn table.offset) read

  pub founds_classes : (left : Budget) → Founds AreClasses (classes_at bytes p left)
  unfolding classes_at
  founds_classes left = weaker (classes_at bytes p left)
      (next (known (finds_word bytes 96)) (λ count _. next (known (finds_word bytes 100)) (λ offset _. next (founds_table count offset left) (λ classes _. done classes.0))))
      (λ y h. let offset = h.2 in let table = offset.2 in subst AreClasses (sym table.2) (record {
        table = record { size = h.0; offset = offset.0 };
        stands = record { size = h.1; offset = offset.1; inside = table.1.inside };
        classes = table.1.entries;
      }))

-- the header says how long the file is
pub few_bytes : (bytes : List ℕ) (version : Version) → AreBytes bytes → IsHeader bytes version → length bytes < 2 ^ 32
few_bytes bytes version are h = word_below bytes are 32 (length bytes) h.file_size

spelled : (bytes : List ℕ) (version : Version) (pools : Pools) (cs : List Class) (left : Budget) → AreBytes bytes → IsHeader bytes version → SpellsPools bytes 16777216 pools
    → classes_at bytes (tables_with version pools) left ≡ Ok cs → Spells bytes (record (tables_with version pools) { classes = cs })
spelled bytes version pools cs left are header tables h =
    let classes : AreClasses bytes (few_bytes bytes version are header) (tables_with version pools) cs cs
    = (founds_classes bytes (few_bytes bytes version are header) (tables_with version pools) cs left).found cs h in
    record { header = header; pools = tables; table = classes.table; stands = classes.stands; classes = classes.classes }

with_tables : (bytes : List ℕ) (p t : Program) (head : Program × ℕ) (cs : List Class) (left : Budget) → AreBytes bytes → head.0 ≡ t → IsHead bytes head → classes_at bytes t left ≡ Ok cs → p ≡ record t { classes = cs } → Spells bytes p
with_tables bytes p t head cs left are is h read same =
    let made : t ≡ tables_with h.version h.tables.pools = sym is ∙ h.tables.is in
    subst (Spells bytes) (sym (same ∙ ap (λ (x : Program). record x { classes = cs }) made))
    (spelled bytes h.version h.tables.pools cs left are h.header.header h.tables.spelled (subst (λ (x : Program). classes_at bytes x left ≡ Ok cs) made read))

pub read_is_spelled : (bytes : List ℕ) (p : Program) → AreBytes bytes → program_at bytes ≡ Ok p → Spells bytes p
read_is_spelled bytes p are h =
    let r : IsRead bytes p = is_read bytes p h in
    with_tables bytes p r.tables (r.tables, r.left) r.classes (record { items = r.left; cells = 0 }) are refl ((finds_head bytes).found (r.tables, r.left) r.head) r.filled r.is
