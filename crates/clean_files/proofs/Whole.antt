-- No fault stands in a file that is read.
use Rattle.std.proofs.Common.{◌≡◌, ◌≤◌, ◌↔◌, ℕ, ◌+◌, ◌*◌, true, List, length, Result, Ok, Err, refl, sym, ap, subst, ◌∙◌, arith, true≢false}
use Rattle.program_model.specs.InterfaceRules.{interfaces_stand_free}
use Rattle.program_model.specs.declared.program.Class.{Class}
use Rattle.program_model.specs.declared.program.Program.{Program}
use Rattle.dex_defs.specs.ClassData.{Entry}
use Rattle.dex_defs.specs.CodeItems.{Frame, tries_at}
use Rattle.dex_defs.specs.Parts.{Fault, Part}
use Rattle.dex_defs.specs.Places.{Leads, HasEntry, HasFrame}
use Rattle.dex_defs.specs.Placed as placed
use Rattle.dex_defs.specs.Faults as faults
use Rattle.dex_defs.specs.ClassFaults as members
use Rattle.dex_defs.specs.ClassFaults.{HasFault, InMembers, InRoots, InCode, InGraph, DefinedTwice, OwnAncestor, Split}
use Rattle.dex_defs.specs.Spells.{Spells}
use Rattle.dex_base.specs.Reading.{Gives}
use Rattle.dex_read.specs.Faults.{is_free}
use Rattle.dex_read.specs.Tables.{sizes_in}
use Rattle.dex_read.specs.declared.fault.DexFault.{DexFault}
use Rattle.dex_read.specs.declared.members.Budget.{Budget}
use Rattle.dex_read.specs.File.{classes_at, program_at}
use Rattle.read_laws.proofs.Bounds.{AreBytes}
use Rattle.read_laws.proofs.Interfaces.{all_stand_free}
use Rattle.read_laws.proofs.Told.{is_read}
use Rattle.spelled_law.proofs.Whole.{read_is_spelled}
use Rattle.refused_code.specs.Faultless.{IsFaultless, is_beyond}
use Rattle.refused_law.proofs.Read.{sizes_are}
use Rattle.refused_law.proofs.ValueFaults.{AreSizes}
use Rattle.past_law.specs.Within.{IsWithin, IsRead}
use Rattle.past_law.proofs.Within.{reads}
use Rattle.clean_files.specs.OfGraph.{IsOfGraph}
use Rattle.clean_files.proofs.Parts.{Good, not_bad}
use Rattle.clean_files.proofs.Tables.{no_header, no_pools}
use Rattle.clean_files.proofs.TableParts as parts
use Rattle.clean_files.proofs.ClassParts as classes
use Rattle.clean_files.proofs.Members as m
use Rattle.clean_files.proofs.Roots as roots
use Rattle.clean_files.proofs.Directories as directories
use Rattle.clean_files.proofs.Values as values
use Rattle.clean_files.proofs.Firsts as firsts
use Rattle.clean_files.proofs.CodeClean.{frame_inside, units_inside, tries_inside, none_in_code}

-- what is known of the code of a file that is read
record IsCodeGood (bytes : List ℕ) : Type 0 where
  frames : (class which place at : ℕ) (e : Entry) → 2 ≤ which → HasEntry bytes class which place e → Leads e.code at → at + 16 ≤ length bytes
  units : (class at : ℕ) (e : Entry) (f : Frame) → HasFrame bytes class e at f → at + (16 + 2 * f.size) ≤ length bytes
  tries : (class at size : ℕ) (e : Entry) (f : Frame) → HasFrame bytes class e at f → at + size ≡ tries_at at f + 8 * f.tries → at + size ≤ length bytes
  none : (fault : Fault) → InCode bytes fault → ⊥

module _ (bytes : List ℕ) (q : Program) (left : Budget) (cs : List Class) (filled : classes_at bytes q left ≡ Ok cs) (s : Spells bytes (record q { classes = cs })) (sizes : AreSizes bytes (sizes_in q))
    (free : interfaces_stand_free (record q { classes = cs }) ≡ true) (code : IsCodeGood bytes) where
  abbrev p : Program
  p = record q { classes = cs }

  classes_good : (part : Part) → placed.InClasses bytes part → Good bytes part
  classes_good part (placed.ClassType class entry size e h) = classes.class_type bytes q left cs filled s class entry size e h
  classes_good part (placed.Superclass class entry size e h) = classes.superclass_good bytes q left cs filled s class entry size e h
  classes_good part (placed.Source class entry size e h) = classes.source_good bytes q left cs filled s class entry size e h
  classes_good part (placed.FirstCount class at def has leads) = classes.first_count bytes q left cs filled s class at def has leads
  classes_good part (placed.SecondCount class at n mid def has leads is) = classes.second_count bytes q left cs filled s class at n mid def has leads is
  classes_good part (placed.ThirdCount class at n m mid next def has leads is also) = classes.third_count bytes q left cs filled s class at n m mid next def has leads is also
  classes_good part (placed.FourthCount class at n m k mid next last def has leads is also more) = classes.fourth_count bytes q left cs filled s class at n m k mid next last def has leads is also more
  classes_good part (placed.EntryStep class data_at which place before at def has leads stands) = classes.entry_step bytes q left cs filled s class data_at which place before at def has leads stands
  classes_good part (placed.EntryFlags class data_at which place before at step mid def has leads stands is) = classes.entry_flags bytes q left cs filled s class data_at which place before at step mid def has leads stands is
  classes_good part (placed.EntryCode class data_at which place before at step flags mid next def has leads stands method is also) =
      classes.entry_code bytes q left cs filled s class data_at which place before at step flags mid next def has leads stands method is also
  classes_good part (placed.CodeFrame class which place at e method has leads) = code.frames class which place at e method has leads
  classes_good part (placed.CodeUnits class at e f has) = code.units class at e f has
  classes_good part (placed.CodeTries class at size e f has some is) = code.tries class at size e f has is
  classes_good part (placed.ArrayCount class at has) = classes.array_count bytes q left cs filled s class at has

  annotations_good : (part : Part) → placed.InAnnotations bytes part → Good bytes part
  annotations_good part (placed.DirectoryHead class at has) = directories.directory_head bytes q left cs filled s sizes class at has
  annotations_good part (placed.DirectoryWhole class at fields methods parameters has counts) = directories.directory_whole bytes q left cs filled s sizes class at fields methods parameters has counts
  annotations_good part (placed.PairField class pair size stands h) = directories.pair_field bytes q left cs filled s sizes class pair size stands h
  annotations_good part (placed.PairMethod class pair size stands h) = directories.pair_method bytes q left cs filled s sizes class 0 pair size stands h
  annotations_good part (placed.PairParameters class pair size stands h) = directories.pair_method bytes q left cs filled s sizes class 1 pair size stands h
  annotations_good part (placed.RefsCount at has) = directories.refs_count bytes q left cs filled s sizes at has
  annotations_good part (placed.RefsWhole at count has is) = directories.refs_whole bytes q left cs filled s sizes at count has is
  annotations_good part (placed.SetCount at has) = directories.set_count bytes q left cs filled s sizes at has
  annotations_good part (placed.SetWhole at count has is) = directories.set_whole bytes q left cs filled s sizes at count has is
  annotations_good part (placed.MarkHead at has) = directories.mark_head bytes q left cs filled s sizes at has

  part_good : (part : Part) → placed.IsPlaced bytes part → Good bytes part
  part_good part (placed.Tables h) = parts.tables_good bytes q left cs filled s part s.header.whole h
  part_good part (placed.Classes h) = classes_good part h
  part_good part (placed.Annotations h) = annotations_good part h
  part_good part (placed.Values h) = values.values_good bytes q left cs filled s sizes part h

  none_out_of_order : (f : Fault) → faults.OutOfOrder bytes f → ⊥
  none_out_of_order f (faults.Strings place a b x y h g bad is) = true≢false (sym (parts.strings_ascend bytes p s place a b x y h g) ∙ bad)
  none_out_of_order f (faults.Types place a b x y h g i j bad is) = let low = parts.types_ascend bytes p s place a b x y h g i j in omega (arith, low, bad)
  none_out_of_order f (faults.Protos place a b x y xs ys h g i j bad is) = true≢false (sym (parts.protos_ascend bytes p s place a b x y xs ys h g i j) ∙ bad)
  none_out_of_order f (faults.Fields place a b c n t c2 n2 t2 h g i j bad is) = true≢false (sym (parts.fields_ascend bytes p s place a b c n t c2 n2 t2 h g i j) ∙ bad)
  none_out_of_order f (faults.Methods place a b c n t c2 n2 t2 h g i j bad is) = true≢false (sym (parts.methods_ascend bytes p s place a b c n t c2 n2 t2 h g i j) ∙ bad)
  none_out_of_order f (faults.Members class data_at which place before at mid def has leads stands zero_step is) = m.rises bytes q left cs filled s sizes class data_at which place before at mid def has leads stands zero_step
  none_out_of_order f (faults.Pairs class which first place a x y h g i j bad of_pair at is) = let low = directories.pairs_ascend bytes q left cs filled s sizes class which a x y h g i j in omega (arith, low, bad)
  none_out_of_order f (faults.Marks set place a b x y i j has h g k l bad is) = let low = values.marks_ascend bytes q left cs filled s sizes set place a b x y i j has h g k l in omega (arith, low, bad)
  none_out_of_order f (faults.Elements note place a b x y i j has h g k l bad is) = let low = values.elements_ascend bytes q left cs filled s sizes note place a b x y i j has h g k l in omega (arith, low, bad)

  none_in_values : (f : Fault) → faults.InValues bytes f → ⊥
  none_in_values f (faults.NoTag depth at has inside bad is) = let t = values.tag_of_value bytes q left cs filled s sizes depth at has in true≢false (sym t.has.1 ∙ bad)
  none_in_values f (faults.Unfit class array place at letter e has item tag entry letters bad is) = true≢false (sym (firsts.fits_first bytes q left cs filled s sizes class array place at letter e has item entry letters) ∙ bad)
  none_in_values f (faults.Past class array place at count has item statics bad is) = let low = firsts.not_past bytes q left cs filled s sizes class array place at count has item statics in omega (arith, low, bad)
  none_in_values f (faults.NamesNone depth at header n size has tag names number h bad is) = let low = values.names_one bytes q left cs filled s sizes depth at header n size has names number h in omega (arith, low, bad)
  none_in_values f (faults.TooDeep at has is) = values.not_deep bytes q left cs filled s sizes at has

  none_in_members : (f : Fault) → InMembers bytes f → ⊥
  none_in_members f (members.NoMember class data_at which place before at step mid header size def has leads stands is_step of_table h bad is) =
      m.has_number bytes q left cs filled s sizes class data_at which place before at step mid header size def has leads stands is_step of_table h bad
  none_in_members f (members.OtherClass class which place at owner def e has entry id is_owner other is) = other (m.own_class bytes q left cs filled s sizes class which place at owner def e has entry id is_owner)
  none_in_members f (members.NotDefined class pairs place pair first number stands of_pair at is_number none is) = directories.is_defined bytes q left cs filled s sizes class pairs pair number stands is_number none
  none_in_members f (members.NoCode class which place e has method lacks none is) = m.not_no_code bytes q left cs filled s sizes class which place e has method lacks none
  none_in_members f (members.SomeCode class which place e has method lacks some is) = m.not_some_code bytes q left cs filled s sizes class which place e has method lacks some
  none_in_members f (members.InBoth class which other place at e d partner has also same is) = m.in_one bytes q left cs filled s sizes class which other place at e d partner has also same
  none_in_members f (members.WrongField class which place e has field bad is) = true≢false (sym (m.field_list bytes q left cs filled s sizes class which place e has field) ∙ bad)
  none_in_members f (members.WrongMethod class which place at string begin name e has method id is_string text bad is) =
      true≢false (sym (m.method_list bytes q left cs filled s sizes class which place at string begin name e has method id is_string text) ∙ bad)

  none_in_roots : (f : Fault) → InRoots bytes f → ⊥
  none_in_roots f (members.IsObject class begin def has text is) = roots.not_object bytes q left cs filled s class begin def has text
  none_in_roots f (members.NoSuperclass class def has none is) = roots.has_superclass bytes q left cs filled s class def has none
  none_in_roots f (members.OwnType class letter def has h other is) = other (roots.own_type bytes q left cs filled s class letter def has h)
  none_in_roots f (members.Above class letter def has h other is) = other (roots.above_type bytes q left cs filled s class letter def has h)
  none_in_roots f (members.Interface class letter at i kind count def has leads is_count less is_kind h other is) = other (roots.interface_type bytes q left cs filled s class letter at i kind count def has leads is_count less is_kind h)
  none_in_roots f (members.OnPlain class def has interface plain is) = roots.not_on_plain bytes q left cs filled s free class def has interface plain
  none_in_roots f (members.ListsPlain class at i kind count def has interface leads is_count less is_kind plain is) = roots.no_plain_listed bytes q left cs filled s free class at i kind count def has interface leads is_count less is_kind plain

  all_of_graph : (f : Fault) → HasFault bytes f → IsOfGraph bytes f
  all_of_graph f (members.BadPart part h bad) = absurd (not_bad bytes part f (part_good part h) bad)
  all_of_graph f (members.BadHeader h) = absurd (no_header bytes q.version s.header f h)
  all_of_graph f (members.BadPools h) = absurd (no_pools bytes p s f h)
  all_of_graph f (members.BadOrder h) = absurd (none_out_of_order f h)
  all_of_graph f (members.BadValues h) = absurd (none_in_values f h)
  all_of_graph f (members.BadMember h) = absurd (none_in_members f h)
  all_of_graph f (members.BadRoot h) = absurd (none_in_roots f h)
  all_of_graph f (members.BadCode h) = absurd (code.none f h)
  all_of_graph f (members.BadGraph r spells h) = record { program = r; spells = spells; stands = h }

code_good : (bytes : List ℕ) (are : AreBytes bytes) (p : Program) → program_at bytes ≡ Ok p → IsCodeGood bytes
code_good bytes are p read = record { frames = frame_inside bytes are p read; units = units_inside bytes are p read; tries = tries_inside bytes are p read; none = none_in_code bytes are p read }

-- what stands in a file that is read is of the class graph
pub only_graph : (bytes : List ℕ) → AreBytes bytes → (p : Program) → program_at bytes ≡ Ok p → (f : Fault) → HasFault bytes f → IsOfGraph bytes f
only_graph bytes are p read =
    let r = is_read bytes p read in
    all_of_graph bytes r.tables (record { items = r.left; cells = 0 }) r.classes r.filled (subst (Spells bytes) r.is (read_is_spelled bytes p are read)) (sizes_are bytes are r.tables r.left r.head)
    (subst (λ x. interfaces_stand_free x ≡ true) r.is (all_stand_free bytes p read)) (code_good bytes are p read)

in_graph : (r : Program) (f : Fault) → InGraph r f → is_beyond f ≡ true
in_graph r f (DefinedTwice class h is) = ap is_beyond is
in_graph r f (OwnAncestor class h is) = ap is_beyond is
in_graph r f (Split class method h is) = ap is_beyond is

pub no_fault : (bytes : List ℕ) → AreBytes bytes → (p : Program) → program_at bytes ≡ Ok p → IsFaultless bytes
no_fault bytes are p read f h = let o = only_graph bytes are p read f h in in_graph o.program f o.stands

-- which files are read
read_faultless : (bytes : List ℕ) → AreBytes bytes → (answer : Result Program DexFault) → program_at bytes ≡ answer → IsRead answer → IsFaultless bytes
read_faultless bytes are (Ok p) h read = no_fault bytes are p h
read_faultless bytes are (Err e) h read = absurd read

pub exactly : (bytes : List ℕ) → AreBytes bytes → IsWithin bytes → IsRead (program_at bytes) ↔ IsFaultless bytes
exactly bytes are within = (λ read. read_faultless bytes are (program_at bytes) refl read, λ none. reads bytes are none within)

pub answered : (bytes : List ℕ) → AreBytes bytes → (p : Program) (result : Result Program DexFault) → Gives is_free (λ program. program) result (program_at bytes) → result ≡ Ok p → IsFaultless bytes
answered bytes are p result gives is = no_fault bytes are p (given result gives is)
  where
    given : (result : Result Program DexFault) → Gives is_free (λ program. program) result (program_at bytes) → result ≡ Ok p → program_at bytes ≡ Ok p
    given (Ok x) g e = g ∙ e
    given (Err x) g e = absurd cc
