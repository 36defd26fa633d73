-- The text that is said for each status.
use Rattle.std.specs.Prelude.{ℕ, ◌^◌, ◌-◌, false, List, [], ◌++◌, codes}
use Rattle.std.specs.Fmt.{decimal, digits, padded_integral, format_spec}
use Rattle.program_model.specs.declared.limits.Counted.{Counted}
use Rattle.program_model.specs.declared.limits.Counted.TheVariants as counted
use Rattle.program_model.specs.declared.limits.LimitFault.{LimitFault}
use Rattle.rule_text.specs.declared.fault.RuleFault.{RuleFault}
use Rattle.rule_text.specs.declared.fault.RuleFault.TheVariants as rule
use Rattle.dex_pools.specs.declared.fault.Table.{Table}
use Rattle.dex_pools.specs.declared.fault.Table.TheVariants as table
use Rattle.dex_pools.specs.declared.fault.PoolFault.{PoolFault}
use Rattle.dex_pools.specs.declared.fault.PoolFault.TheVariants as pool
use Rattle.code_read.specs.declared.fault.CodeFault.{CodeFault}
use Rattle.code_read.specs.declared.fault.CodeFault.TheVariants as code
use Rattle.dex_read.specs.declared.fault.DexFault.{DexFault}
use Rattle.dex_read.specs.declared.fault.DexFault.TheVariants as dex
use Rattle.hierarchy.specs.declared.fault.HierarchyFault.{HierarchyFault}
use Rattle.hierarchy.specs.declared.fault.HierarchyFault.TheVariants as classes
use Rattle.verify.specs.declared.fault.TypeFault.{TypeFault}
use Rattle.verify.specs.declared.fault.TypeFault.TheVariants as typing
use Rattle.redex_cli.specs.declared.status.InputFault.{InputFault}
use Rattle.redex_cli.specs.declared.status.InputFault.TheVariants as input
use Rattle.redex_cli.specs.declared.status.Status.{Status}
use Rattle.redex_cli.specs.declared.status.Status.TheVariants.{Done, Usage, BadRules, BadDex, Limit, ReadFault, WriteFault, NoMemory, BadScript}

abbrev pub usage_text : List ℕ
usage_text =
    codes "usage: redex optimise RULES IN OUT [--spare PREFIX].. [--at-most N] [--inline] [--library FILE]\n       redex check IN\n       redex live RULES IN [--library FILE]\n       redex trace RULES IN SCRIPT STEPS [--library FILE]\n       redex workload N\n"

-- `OPENING: WORDS N`
abbrev pub number_line : List ℕ → List ℕ → ℕ → List ℕ
number_line opening words number = opening ++ codes ": " ++ words ++ codes " " ++ decimal number ++ codes "\n"

abbrev pub counted_name : Counted → List ℕ
counted_name counted.RuleBytes = codes "rule bytes"
counted_name counted.FileBytes = codes "file bytes"
counted_name counted.ScriptBytes = codes "script bytes"
counted_name counted.Cells = codes "cells"
counted_name counted.Types = codes "types"
counted_name counted.Protos = codes "protos"
counted_name counted.Fields = codes "fields"
counted_name counted.Methods = codes "methods"
counted_name counted.TextUnits = codes "text units"
counted_name counted.Items = codes "items"

abbrev pub limit_text : LimitFault → List ℕ
limit_text fault = number_line (codes "limit") (counted_name fault.counted) fault.number

abbrev pub no_memory_text : List ℕ
no_memory_text = codes "no memory\n"

abbrev pub rule_line : ℕ → List ℕ → List ℕ
rule_line line words = codes "bad rules: line " ++ decimal line ++ codes ": " ++ words ++ codes "\n"

abbrev pub rule_text : RuleFault → List ℕ
rule_text rule.NoMemory = no_memory_text
rule_text (rule.Syntax line) = rule_line line (codes "syntax")
rule_text (rule.Option line) = rule_line line (codes "option")
rule_text (rule.NotUtf8 at) = codes "bad rules: byte " ++ decimal at ++ codes ": not utf-8\n"
rule_text (rule.TooMany count) = number_line (codes "bad rules") (codes "too many:") count

abbrev pub table_name : Table → List ℕ
table_name table.Strings = codes "strings"
table_name table.Types = codes "types"
table_name table.Protos = codes "protos"
table_name table.Fields = codes "fields"
table_name table.Methods = codes "methods"
table_name table.Members = codes "members"

abbrev pub index_line : List ℕ → ℕ → ℕ → ℕ → List ℕ
index_line opening at value size =
    opening ++ codes ": index " ++ decimal value ++ codes " of " ++ decimal size ++ codes " at " ++ decimal at ++ codes "\n"

abbrev pub order_line : List ℕ → Table → ℕ → List ℕ
order_line opening which place =
    opening ++ codes ": order in " ++ table_name which ++ codes " at " ++ decimal place ++ codes "\n"

-- The tables, values and annotations of a file; it begins with what is bad.
abbrev pub pool_text : List ℕ → PoolFault → List ℕ
pool_text opening pool.NoMemory = no_memory_text
pool_text opening (pool.Short at) = number_line opening (codes "short at") at
pool_text opening (pool.LongLeb at) = number_line opening (codes "long number at") at
pool_text opening (pool.BadText at) = number_line opening (codes "text at") at
pool_text opening (pool.BadDescriptor at) = number_line opening (codes "descriptor at") at
pool_text opening (pool.Index at value size) = index_line opening at value size
pool_text opening (pool.Order which place) = order_line opening which place
pool_text opening (pool.BadValue at) = number_line opening (codes "value at") at
pool_text opening (pool.Deep at) = number_line opening (codes "depth at") at
pool_text opening (pool.Shorty at) = number_line opening (codes "shorty at") at
pool_text opening (pool.Limit fault) = limit_text fault

abbrev pub code_line : List ℕ → ℕ → List ℕ → ℕ → List ℕ
code_line opening method words number =
    opening ++ codes ": method " ++ decimal method ++ codes ": " ++ words ++ codes " " ++ decimal number ++ codes "\n"

-- What is wrong with a method's code. Want of memory and limits are not nested here.
abbrev pub code_words : CodeFault → List ℕ
code_words code.NoMemory = codes "code"
code_words (code.Opcode at) = codes "opcode at"
code_words (code.Cut at) = codes "cut at"
code_words (code.Target at) = codes "target at"
code_words (code.Payload at) = codes "payload at"
code_words (code.Operand at) = codes "operand at"
code_words (code.Region place) = codes "region"
code_words (code.Handler place) = codes "handler"
code_words (code.FallsOff at) = codes "falls off at"
code_words (code.Misplaced at) = codes "misplaced at"
code_words (code.Limit fault) = codes "code"

-- Where it is.
abbrev pub code_number : CodeFault → ℕ
code_number code.NoMemory = 0
code_number (code.Opcode at) = at
code_number (code.Cut at) = at
code_number (code.Target at) = at
code_number (code.Payload at) = at
code_number (code.Operand at) = at
code_number (code.Region place) = place
code_number (code.Handler place) = place
code_number (code.FallsOff at) = at
code_number (code.Misplaced at) = at
code_number (code.Limit fault) = 0

-- Eight hexadecimal digits.
abbrev pub sum_text : ℕ → List ℕ
sum_text sum = padded_integral (format_spec 32 0 4 8 (2 ^ 64 - 1)) false [] (digits 16 false sum)

abbrev pub sums_line : List ℕ → List ℕ → List ℕ → List ℕ
sums_line opening stored computed =
    opening ++ codes ": checksum " ++ stored ++ codes ", computed " ++ computed ++ codes "\n"

abbrev pub member_line : List ℕ → ℕ → ℕ → List ℕ
member_line opening class place =
    opening ++ codes ": member " ++ decimal place ++ codes " of class " ++ decimal class ++ codes "\n"

-- A file or a library; it begins with what is bad.
abbrev pub dex_text : List ℕ → DexFault → List ℕ
dex_text opening dex.NoMemory = no_memory_text
dex_text opening (dex.Short at) = number_line opening (codes "short at") at
dex_text opening dex.Magic = opening ++ codes ": magic\n"
dex_text opening (dex.Header at) = number_line opening (codes "header at") at
dex_text opening (dex.Checksum stored computed) = sums_line opening (sum_text stored) (sum_text computed)
dex_text opening (dex.Pool fault) = pool_text opening fault
dex_text opening (dex.Code method fault) = code_line opening method (code_words fault) (code_number fault)
dex_text opening (dex.Member class place) = member_line opening class place
dex_text opening (dex.Root class) = number_line opening (codes "root class") class
dex_text opening (dex.FrameSize method) = number_line opening (codes "frame of method") method
dex_text opening (dex.Limit fault) = limit_text fault

abbrev pub twice_line : ℕ → List ℕ
twice_line class = codes "bad dex: class " ++ decimal class ++ codes " twice\n"

abbrev pub split_line : ℕ → ℕ → List ℕ
split_line class method =
    codes "bad dex: split override of method " ++ decimal method ++ codes " in class " ++ decimal class ++ codes "\n"

abbrev pub hierarchy_text : HierarchyFault → List ℕ
hierarchy_text classes.NoMemory = no_memory_text
hierarchy_text (classes.Cycle class) = number_line (codes "bad dex") (codes "cycle at class") class
hierarchy_text (classes.Twice class) = twice_line class
hierarchy_text (classes.SplitOverride class method) = split_line class method

abbrev pub typing_line : ℕ → ℕ → ℕ → List ℕ
typing_line method position register =
    codes "bad dex: method " ++ decimal method ++ codes ": ill typed at position " ++ decimal position ++ codes ", register " ++ decimal register ++ codes "\n"

abbrev pub typing_text : TypeFault → List ℕ
typing_text typing.NoMemory = no_memory_text
typing_text (typing.IllTyped method position register) = typing_line method position register

abbrev pub input_text : InputFault → List ℕ
input_text (input.Dex fault) = dex_text (codes "bad dex") fault
input_text (input.Hierarchy fault) = hierarchy_text fault
input_text (input.Typing fault) = typing_text fault
input_text (input.Library fault) = dex_text (codes "bad library") fault

-- The usage text for words that spell no command, none where the run is done, and otherwise one line.
abbrev pub status_text : Status → List ℕ
status_text Done = []
status_text Usage = usage_text
status_text (BadRules fault) = rule_text fault
status_text (BadDex fault) = input_text fault
status_text (Limit fault) = limit_text fault
status_text ReadFault = codes "read fault\n"
status_text WriteFault = codes "write fault\n"
status_text NoMemory = no_memory_text
status_text (BadScript line) = number_line (codes "bad script") (codes "line") line
