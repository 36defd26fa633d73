-- What the law of coverage asks of a program holds of a well-formed, typed program.
use Rattle.std.proofs.Common.{◌≡◌, ℕ, true}
use Rattle.program_model.specs.ProgramRules.{is_well_formed}
use Rattle.program_model.specs.declared.pass.Outside.{Outside}
use Rattle.program_model.specs.declared.program.Program.{Program}
use Rattle.class_defs.specs.ClassGraph.{IsAncestor, IsTwice}
use Rattle.class_defs.proofs.WellFormed.{sound}
use Rattle.dalvik_defs.specs.Naming.{named}
use Rattle.dalvik_defs.specs.Outer.{Outer, outer_of}
use Rattle.dalvik_defs.specs.declared.program.NamedProgram.{NamedProgram}
use Rattle.dalvik_defs.specs.declared.tables.Framework.{Framework}
use Rattle.pass_defs.specs.Analysis.{Analysis}
use Rattle.run_facts.specs.Closed.{IsClosed}
use Rattle.pass_defs.specs.Facts.{Facts}
use Rattle.pass_defs.specs.Typed.{IsTyped}
use Rattle.removal_law.specs.Reach.{ShutsHold}
use Rattle.removal_law.proofs.OuterTables.{tables_agree}
use Rattle.removal_bridge.proofs.Formed.{regular_program}
use Rattle.program_laws.proofs.WellFormed.{well_placed}
use Rattle.removal_bridge.proofs.TypedFormed as stuck
use Rattle.cover_law.specs.Coverable.{IsTabled}
use Rattle.facts_kept.specs.Apart.{ConstructsByOwn, IsTabledApart}
use Rattle.premises.specs.Numbers.{AllHaveWords}
use Rattle.facts_kept.proofs.Acyclic.{grounded_acyclic}
use Rattle.facts_kept.proofs.Codes.{codes_formed}
use Rattle.facts_kept.proofs.Described.{described}
use Rattle.facts_kept.proofs.Firsts.{firsts_ranged}
use Rattle.facts_kept.proofs.Makes.{makes_there}

pub tabled_apart : (p : Program) (o : Outside) (f : Framework) → is_well_formed p ≡ true → ((class : ℕ) → IsTwice p class → ⊥) → ((class : ℕ) → IsAncestor p class class → ⊥) → IsTyped (named p)
    → AllHaveWords p → ShutsHold (named p) (outer_of p o) → ConstructsByOwn (named p) (outer_of p o) → IsTabledApart (named p) (outer_of p o) f
tabled_apart p o f fits twice ancestor typed words shuts own = record {
  regular = stuck.regular_program p fits twice typed;
  acyclic = grounded_acyclic (named p) (regular_program p fits twice ancestor);
  described = described p (sound p fits);
  table = record { inside = tables_agree p o; shuts = shuts };
  places = well_placed p fits;
  formed = codes_formed p (sound p fits) words;
  firsts = firsts_ranged p (sound p fits) words;
  makes = makes_there (named p) (outer_of p o) f (tables_agree p o) own;
}

pub tabled : {V : Type 0} (a : Analysis V) (p : NamedProgram) (o : Outer) (f : Framework) (facts : Facts V) → IsTabledApart p o f → IsClosed a p o facts → IsTabled a p o f facts
tabled a p o f facts apart closed = record {
  regular = apart.regular;
  acyclic = apart.acyclic;
  described = apart.described;
  table = apart.table;
  places = apart.places;
  formed = apart.formed;
  firsts = apart.firsts;
  makes = apart.makes;
  closed = closed;
}
