-- What was read, as lists and numbers.
use Rattle.std.specs.Option.{option_map}
use Rattle.line_tables.specs.declared.read.LinesRead.{LinesRead}
use Rattle.line_tables.specs.Item.{Lines}

abbrev pub seen : LinesRead → Lines
seen read = (option_map (λ lines. lines.items) read.lines, read.opcodes)
