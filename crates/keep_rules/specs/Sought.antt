-- Whether a class stands below what a rule asks for, and what a rule keeps of a class that it matches.
use Rattle.std.specs.Prelude.{◌≡◌, ◌&&◌, ℕ, Bool, true, List, Option, Some, None, nat_eq, slice_get}
use Rattle.std.specs.List.{list_any}
use Rattle.std.proofs.Common.{Bor}
use Rattle.program_model.specs.declared.program.Class.{Class}
use Rattle.program_model.specs.declared.program.Program.{Program}
use Rattle.dalvik_defs.specs.Naming.{type_at, named}
use Rattle.rule_text.specs.Rules.{KeepRule, Above}
use Rattle.rule_defs.specs.Kept.{stands_below}
use Rattle.keep_rules.specs.Marks.{is_on}
use Rattle.keep_rules.specs.Grown.{Grew, GrewMembers, is_always_of, is_describing, lined_field, lined_method}
use Rattle.keep_rules.specs.declared.marks.Marks.{Marks}

abbrev pub under_test : Option (Bor (List Bool)) → ℕ → Bool
under_test None place = true
under_test (Some marks) place = is_on marks.now place

-- for each class, by its place, whether it stands below what is asked for
abbrev pub AreStanding : Program → Option Above → Option (Bor (List Bool)) → Type 0
AreStanding p above under = (place : ℕ) (c : Class) → slice_get p.classes place ≡ Some c → under_test under place ≡ stands_below (named p) above (type_at p c.name)

-- what a rule keeps of a class that it matches is marked
pub record GrewKept (p : Program) (r : KeepRule) (c : Class) (old new : Marks) : Type 0 where
  pub classes : Grew (λ n. is_always_of r && nat_eq n c.name) old.classes.items new.classes.items
  pub fields : GrewMembers (is_always_of r) (is_describing r) (λ n. list_any (lined_field p r n) c.fields) old.fields new.fields
  pub methods : GrewMembers (is_always_of r) (is_describing r) (λ n. list_any (lined_method p r n) c.methods) old.methods new.methods
  pub silent : new.silent.items ≡ old.silent.items
