-- What a number of the table of methods names.
use Rattle.std.proofs.Common.{◌≡◌, ◌<◌, ℕ, true, length, Option, Some, None, ltb-true}
use Rattle.std.specs.Prelude.{◌&&◌, MatchOption, slice_get}
use Rattle.program_model.specs.declared.pools.MethodName.{MethodName}
use Rattle.program_model.specs.declared.program.Program.{Program}
use Rattle.program_model.specs.ProgramRules.{is_well_formed}
use Rattle.program_model.specs.TableRules.{method_id_fits}
use Rattle.program_model.specs.Texts.{has_proto, has_string, has_type}
use Rattle.class_defs.proofs.WellFormed.{all_at, and_left, sound}
use Rattle.hierarchy.specs.Naming.{IsKey}
use Rattle.receivers.specs.declared.finding.Finder.{Finder}
use Rattle.receivers.specs.declared.finding.Named.{Named}
use Rattle.receivers.specs.Receiving.{IsNameOf}

pub class_is_type : (p : Program) → is_well_formed p ≡ true → (m : ℕ) (q : MethodName) → slice_get p.methods m ≡ Some q → q.class < length p.types
class_is_type p w m q e = ltb-true q.class (length p.types) (and_left (has_type p q.class) (has_proto p q.proto && has_string p q.name) (all_at (method_id_fits p) p.methods m q (sound p w).methods_fit e))

pub named_so : (s : Finder) (m : ℕ) (o : Option Named) → is_well_formed s.program.now ≡ true
    → MatchOption o (slice_get s.program.now.methods m ≡ None) (λ n. (q : MethodName) → slice_get s.program.now.methods m ≡ Some q → (n.kind ≡ q.class) × IsKey s.program.now s.hierarchy.now n.key q.name q.proto)
    → MatchOption o (slice_get s.program.now.methods m ≡ None) (λ n. (q : MethodName) → slice_get s.program.now.methods m ≡ Some q → IsNameOf s q n)
named_so s m None w h = h
named_so s m (Some n) w h = λ q e. let r = h q e in record { kind = r.0; short = class_is_type s.program.now w m q e; key = r.1 }
