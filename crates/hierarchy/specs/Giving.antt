-- What candidates give, by a walk over the classes above theirs.
use Rattle.std.specs.Prelude.{ℕ, Bool, List}
use Rattle.std.specs.List.{list_any}
use Rattle.program_model.specs.declared.program.MethodAt.{MethodAt}
use Rattle.program_model.specs.declared.program.Program.{Program}
use Rattle.class_defs.specs.Places.{is_under}
use Rattle.class_defs.specs.Finding.{Search}
use Rattle.class_defs.specs.Finding as look
use Rattle.hierarchy.specs.declared.find.Given.{Given}
use Rattle.hierarchy.specs.declared.find.Given.TheVariants.{Nothing, One, Clash}

-- a class is one of these or stands above one
abbrev pub is_waiting : Program → List ℕ → ℕ → Bool
is_waiting p cs d = list_any (λ u. is_under p u d) cs

-- which answer of a look-up it is
abbrev pub search_given : Given → Search
search_given Nothing = look.Nothing
search_given (One at) = look.Finds at
search_given Clash = look.Clash

-- with one method more
abbrev pub verdict_more : Search → MethodAt → Search
verdict_more look.Nothing f = look.Finds f
verdict_more (look.Finds g) f = look.Clash
verdict_more look.Clash f = look.Clash
