-- Which methods the rules assume to do nothing.
use Rattle.std.specs.Prelude.{ℕ, Bool, false, ◌&&◌, not, List, nat_lt, Some, None, slice_get}
use Rattle.std.specs.List.{list_any}
use Rattle.program_model.specs.declared.pools.MethodName.{MethodName}
use Rattle.program_model.specs.declared.program.Program.{Program}
use Rattle.dalvik_defs.specs.Naming.{text_at, type_at, signature_at, named}
use Rattle.dalvik_defs.specs.Under.{defines}
use Rattle.rule_text.specs.Rules.{MemberRule, AssumeRule}
use Rattle.rule_defs.specs.Patterns.{some_name_fits}
use Rattle.rule_defs.specs.Members.{names_method}
use Rattle.keep_rules.specs.View.{is_method_of}

-- whether some line names a method
abbrev pub some_line_names : Program → List MemberRule → MethodName → Bool
some_line_names p lines m = list_any (λ line. names_method line.what (text_at p m.name) (signature_at p m.proto)) lines

-- whether the type is no class of the program, and some name matches it
abbrev pub is_silent_type : Program → AssumeRule → ℕ → Bool
is_silent_type p r kind = not (defines (named p) (type_at p kind)) && some_name_fits r.names (type_at p kind)

-- whether the method with a number is named
abbrev pub is_named : Program → AssumeRule → ℕ → Bool
is_named p r n = elim (slice_get p.methods n) [ Some m ↦ some_line_names p r.members m | None ↦ false ]

-- whether it is of the type, and silent by the rule
abbrev pub is_silent_of : Program → AssumeRule → ℕ → ℕ → Bool
is_silent_of p r kind n = is_silent_type p r kind && (is_method_of p kind n && is_named p r n)

-- whether it is silent by the rule
abbrev pub is_silent_by : Program → AssumeRule → ℕ → Bool
is_silent_by p r n = elim (slice_get p.methods n) [ Some m ↦ is_silent_type p r m.class && is_named p r n | None ↦ false ]

-- whether it is of a type below the bound
abbrev pub is_before : Program → ℕ → ℕ → Bool
is_before p bound n = elim (slice_get p.methods n) [ Some m ↦ nat_lt m.class bound | None ↦ false ]
