-- Marks on numbers, as a family of sets of names.
use Rattle.std.specs.Prelude.{ℕ, zero, suc, Bool, false, ◌&&◌, ◌||◌, length}
use Rattle.program_model.specs.declared.program.Program.{Program}
use Rattle.call_graph.specs.declared.live_set.LiveSet.{LiveSet}
use Rattle.reach.specs.Kept.{is_marked}
use Rattle.dalvik_defs.specs.Names.{text_eq, method_eq, field_eq}
use Rattle.dalvik_defs.specs.Naming.{type_at, field_at, method_at}
use Rattle.dalvik_defs.specs.Under.{defines}
use Rattle.dalvik_defs.specs.declared.program.NamedProgram.{NamedProgram}
use Rattle.pass_defs.specs.Live.{Family}

-- whether some number below a bound passes
abbrev pub any_below : ℕ → (ℕ → Bool) → Bool
any_below zero test = false
any_below (suc n) test = test n || any_below n test

-- the names of the marked numbers of the tables
abbrev pub family_of : Program → LiveSet → Family
family_of p s = record {
  classes = λ t. any_below (length p.types) (λ n. is_marked s.classes.items n && text_eq (type_at p n) t);
  made = λ t. any_below (length p.types) (λ n. is_marked s.made.items n && text_eq (type_at p n) t);
  fields = λ k. any_below (length p.fields) (λ n. is_marked s.fields.items n && field_eq (field_at p n) k);
  methods = λ k. any_below (length p.methods) (λ n. is_marked s.methods.items n && method_eq (method_at p n) k);
}

-- a family without the members of classes that a program doesn't define
abbrev pub within : NamedProgram → Family → Family
within p s = record s { fields = λ k. s.fields k && defines p k.class; methods = λ k. s.methods k && defines p k.class }
