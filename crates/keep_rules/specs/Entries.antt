-- What is marked by one entry, and by all.
use Rattle.std.specs.Prelude.{◌≡◌, ◌<◌, ℕ, Bool, false, not, ◌||◌, ◌&&◌, List, length, nat_eq, All}
use Rattle.std.specs.List.{list_any}
use Rattle.program_model.specs.declared.program.Program.{Program}
use Rattle.program_model.specs.declared.pass.Outside.{Outside}
use Rattle.program_model.specs.declared.pass.ClassIf.{ClassIf}
use Rattle.rule_text.specs.declared.rules.SettingName.{SettingName}
use Rattle.rule_text.specs.declared.rules.SettingName.TheVariants as setting
use Rattle.rule_text.specs.Rules.{Entry, Setting, Keep, Assume}
use Rattle.rule_defs.specs.Kept.{is_setting}
use Rattle.keep_rules.specs.Marks.{is_on}
use Rattle.keep_rules.specs.Table.{has, has_pair}
use Rattle.keep_rules.specs.Grown.{Slot, Kinds, Fields, Methods, Silent, Part, marks_in, rule_marks, all_marks, AreMarked}
use Rattle.keep_rules.specs.Silent.{is_silent_by}
use Rattle.keep_rules.specs.Described.{class_names, has_both}
use Rattle.keep_rules.specs.declared.marks.Marks.{Marks}
use Rattle.keep_rules.specs.declared.outside.Switch.{Switch}
use Rattle.keep_rules.specs.declared.outside.Switch.TheVariants as switch

-- the option that turns something off
abbrev pub setting_of : Switch → SettingName
setting_of switch.Shrink = setting.DontShrink
setting_of switch.Optimise = setting.DontOptimize

abbrev pub entry_marks : Program → Entry → Slot → ℕ → Bool
entry_marks p (Keep k) s n = rule_marks p k p.classes s n
entry_marks p (Assume a) Silent n = is_silent_by p a n
entry_marks p (Assume a) s n = false
entry_marks p (Setting name words) s n = false

-- what the rules keep, with the classes in the descriptors of members that are kept
pub record IsMarked (p : Program) (es : List Entry) (marks : Marks) : Type 0 where
  pub classes : AreMarked (length p.types) (λ n. all_marks p es Kinds n || list_any (λ c. class_names p marks.fields.described.items marks.methods.described.items c n) p.classes) marks.classes.items
  pub fields : (s : Part) → AreMarked (length p.fields) (all_marks p es (Fields s)) (marks_in s marks.fields)
  pub methods : (s : Part) → AreMarked (length p.methods) (all_marks p es (Methods s)) (marks_in s marks.methods)
  pub silent : AreMarked (length p.methods) (all_marks p es Silent) marks.silent.items

-- one more pair, if its numbers are below the size
pub record AddsPair (class owner size : ℕ) (old new : List ClassIf) : Type 0 where
  pub classes : All (λ pair. pair.class < size) old → All (λ pair. pair.class < size) new
  pub owners : All (λ pair. pair.owner < size) old → All (λ pair. pair.owner < size) new
  pub pairs : (n k : ℕ) → n < size → k < size → has_pair new n k ≡ (has_pair old n k || (nat_eq n class && nat_eq k owner))

-- ---- lists of what is marked

abbrev pub AreListed : List Bool → List ℕ → ℕ → Type 0
AreListed marks numbers size = (n : ℕ) → n < size → has numbers n ≡ is_on marks n

pub record IsListed (p : Program) (marks : Marks) (pairs : List (ℕ × ℕ)) (o : Outside) : Type 0 where
  pub classes : AreListed marks.classes.items o.classes (length p.types)
  pub methods : AreListed marks.methods.kept.items o.methods (length p.methods)
  pub fields : AreListed marks.fields.kept.items o.fields (length p.fields)
  pub methods_if : AreListed marks.methods.live.items o.methods_if (length p.methods)
  pub fields_if : AreListed marks.fields.live.items o.fields_if (length p.fields)
  pub classes_if : (n k : ℕ) → n < length p.types → k < length p.types → has_pair o.classes_if n k ≡ has_both pairs n k
  pub silent : AreListed marks.silent.items o.silent (length p.methods)

pub record HasFlags (es : List Entry) (o : Outside) : Type 0 where
  pub shrink : o.shrink ≡ not (list_any (is_setting setting.DontShrink) es)
  pub optimise : o.optimise ≡ not (list_any (is_setting setting.DontOptimize) es)
