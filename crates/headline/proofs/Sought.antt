-- A silent call by number is one by name.
use Rattle.std.proofs.Common.{◌≡◌, ℕ, ◌<◌, List, length, Option, Some, None, refl, sym, ap, ◌∙◌, lt-ltb}
use Rattle.std.specs.Prelude.{◌&&◌, nat_eq}
use Rattle.std.specs.List.{list_any}
use Rattle.program_model.specs.declared.program.MethodAt.{MethodAt}
use Rattle.program_model.specs.declared.program.Program.{Program}
use Rattle.program_model.specs.Lookups.{class_place}
use Rattle.class_defs.specs.Places.{chain_of}
use Rattle.class_defs.specs.Members.{own_method}
use Rattle.class_defs.specs.Finding.{search_of, by_entry, finds_from, finds_static}
use Rattle.dalvik_defs.specs.Find.{finds_statically}
use Rattle.dalvik_defs.specs.Naming.{method_at, named}
use Rattle.dalvik_defs.specs.Outer.{methods_in}
use Rattle.dalvik_defs.specs.Silence.{is_unfound}
use Rattle.name_bridge.specs.Named.{finds, search_at}
use Rattle.name_bridge.proofs.Tables.{Sound, entry_at, method_name, method_proto}
use Rattle.name_bridge.proofs.Found.{IsThere, found_there_is, own_answers, first_there}
use Rattle.name_bridge.proofs.Resolved.{static_by_number}
use Rattle.pipeline.specs.Silence.{is_nowhere, is_quiet}
use Rattle.headline.proofs.Listed.{listed_named}

-- nothing by name where there is none by number
unfound : (p : Program) (o : Option MethodAt) → ((at : MethodAt) → o ≡ Some at → IsThere p at) → is_nowhere o ≡ is_unfound (search_at p (search_of o))
unfound p None there = refl
unfound p (Some at) there = sym (ap (λ f. is_unfound (finds f)) (found_there_is p at (there at refl)))

module _ (p : Program) (s : Sound p) (m : ℕ) (low : m < length p.methods) where
  static_there : (at : MethodAt) → finds_static p m ≡ Some at → IsThere p at
  static_there at e =
      let q = entry_at p.methods m low in
      first_there p (own_method p q.0.name q.0.proto) (own_answers p s q.0.name q.0.proto (method_name p s m q.0 q.1) (method_proto p s m q.0 q.1)).there (chain_of p (class_place p q.0.class)) at
      (sym (ap (by_entry (λ q. finds_from p q.name q.proto (class_place p q.class))) q.1) ∙ e)

  -- a static call of the number finds no program method exactly where one of its name finds none
  nowhere_named : is_nowhere (finds_static p m) ≡ is_unfound (finds_statically (named p) (method_at p m))
  nowhere_named = unfound p (finds_static p m) static_there ∙ sym (ap is_unfound (static_by_number p s m low))

  pub quiet_named : (silent : List ℕ) → is_quiet p silent m ≡ (methods_in p silent (method_at p m) && is_unfound (finds_statically (named p) (method_at p m)))
  quiet_named silent =
      ap (λ b. b && (list_any (λ n. nat_eq n m) silent && is_nowhere (finds_static p m))) (lt-ltb m (length p.methods) low)
      ∙ ap (λ b. b && is_nowhere (finds_static p m)) (listed_named p s m low silent)
      ∙ ap (λ b. methods_in p silent (method_at p m) && b) nowhere_named
