-- These 408 bytes are a valid file.
use Rattle.std.proofs.Common.{◌<◌, ℕ, zero, suc, List, [], ◌∷◌, map, refl, arith}
use Rattle.std.specs.Prelude.{Contains}
use Rattle.std.proofs.lemmas.List.Elements.{All-nil}
use Rattle.sha1.specs.Sha1.{first_words, schedule, rounds, compress, hash_after, digest_bytes, sha1}
use Rattle.dex_base.specs.Leb.{uleb_text}
use Rattle.dex_base.specs.Mutf8.{unit_bytes, text_bytes}
use Rattle.insn_set.specs.declared.format.Format.TheVariants.{F11n, F12x, F11x}
use Rattle.code_read.specs.Opcodes.{format_at}
use Rattle.relax.specs.Sizes.{HasRoom, Below}
use Rattle.dex_pools.specs.declared.used.Named.TheVariants as named
use Rattle.dex_pools.specs.Used.{class_names, method_names, field_names, body_names}
use Rattle.dex_defs.specs.Arranged.{Nothing, ToNone, ToOne}
use Rattle.dex_defs.specs.Annotations.{no_directory}
use Rattle.dex_defs.specs.Sweep.{instructions, places_of}
use Rattle.dex_defs.specs.LaysOut.{AreSizes, step_of}
use Rattle.dex_defs.specs.CodeTexts.{AreShortest}
use Rattle.dex_defs.specs.ClassGraph.{IsAbove}
use Rattle.dex_defs.specs.Valid.{CodePart, ClassPart, SetPart, Parts, Stops, all_names, AllUsed, IsSomeCode, IsClassPart, AreParts, LieInOrder, HasMap, IsValidFor, IsSigned, ValidFile}
use Rattle.dex_defs.specs.Examples.{run_program, run_class, run_method, run_body, run_file}
use Rattle.dex_defs.proofs.Computing.{at_most, below, is_32, here_at, zeros_at, stands_at}
use Rattle.dex_defs.proofs.RunSpelled.{spelled, units, pieces, swept, frame, code, lists, class_data, def, def_stands}

-- ---- every entry is used

strings_used : (n : ℕ) → n < 5 → Contains (all_names run_program) (named.Text n)
unfolding class_names method_names field_names body_names
strings_used zero h = (3, below 3 12 refl, refl)
strings_used (suc zero) h = (6, below 6 12 refl, refl)
strings_used (suc (suc zero)) h = (4, below 4 12 refl, refl)
strings_used (suc (suc (suc zero))) h = (5, below 5 12 refl, refl)
strings_used (suc (suc (suc (suc zero)))) h = (11, below 11 12 refl, refl)
strings_used (suc (suc (suc (suc (suc n))))) h = absurd (grind arith)

types_used : (n : ℕ) → n < 3 → Contains (all_names run_program) (named.Kind n)
unfolding class_names method_names field_names body_names
types_used zero h = (7, below 7 12 refl, refl)
types_used (suc zero) h = (0, below 0 12 refl, refl)
types_used (suc (suc zero)) h = (1, below 1 12 refl, refl)
types_used (suc (suc (suc n))) h = absurd (grind arith)

protos_used : (n : ℕ) → n < 1 → Contains (all_names run_program) (named.Proto n)
unfolding class_names method_names field_names body_names
protos_used zero h = (10, below 10 12 refl, refl)
protos_used (suc n) h = absurd (grind arith)

methods_used : (n : ℕ) → n < 1 → Contains (all_names run_program) (named.Method n)
unfolding class_names method_names field_names body_names
methods_used zero h = (2, below 2 12 refl, refl)
methods_used (suc n) h = absurd (grind arith)

none_below : {X : Type 0} (n : ℕ) → n < 0 → X
none_below n h = absurd (grind arith)

used : AllUsed run_program
used = record { strings = strings_used; types = types_used; protos = protos_used; fields = λ n h. none_below n h; methods = methods_used }

-- ---- the code item

abbrev item : List ℕ
item = 2 ∷ 0 ∷ 1 ∷ 0 ∷ 0 ∷ 0 ∷ 0 ∷ 0 ∷ 0 ∷ 0 ∷ 0 ∷ 0 ∷ 3 ∷ 0 ∷ 0 ∷ 0 ∷ 0x12 ∷ 0x50 ∷ 0xb0 ∷ 0x10 ∷ 0x0f ∷ 0x00 ∷ []

abbrev ones : List ℕ
ones = 1 ∷ 1 ∷ 1 ∷ []

least_of : (others : List ℕ) → HasRoom (map step_of run_body.insns) others → Below ones others
least_of [] room = room
least_of (a ∷ []) room = absurd (room.1)
least_of (a ∷ b ∷ []) room = absurd (room.1.1)
least_of (a ∷ b ∷ c ∷ []) room = (room.0, (room.1.0, (room.1.1.0, tt)))
least_of (a ∷ b ∷ c ∷ d ∷ others) room = absurd (room.1.1.1)

sizes : AreSizes run_body ones
sizes = record { room = (at_most 1 1 refl, (at_most 1 1 refl, (at_most 1 1 refl, tt))); least = least_of }

shortest : AreShortest (places_of units pieces) (instructions pieces) run_body.insns
unfolding format_at
shortest = (
  record { format = F11n; is_shortest = refl; row = refl; fields = record { a = 0; b = 5; c = 0; wide = 0 }; units = refl },
  (
    record { format = F12x; is_shortest = refl; row = refl; fields = record { a = 0; b = 1; c = 0; wide = 0 }; units = refl },
    (record { format = F11x; is_shortest = refl; row = refl; fields = record { a = 0; b = 0; c = 0; wide = 0 }; units = refl }, tt),
  ),
)

abbrev code_part : CodePart
code_part = record { debug = 0; text = item; lines = [] }

code_is : IsSomeCode run_file run_program 204 run_method code_part
code_is = record {
  body = run_body;
  is_body = refl;
  frame = frame;
  places = places_of units pieces;
  code = code;
  pieces = pieces;
  swept = swept;
  shortest = shortest;
  sizes = ones;
  least = sizes;
  debug = refl;
  text = refl;
  lines = refl;
}

-- ---- the parts

abbrev class_part : ClassPart
class_part = record { def = def; lists = lists; directory = no_directory; values = []; codes = code_part ∷ []; refs = [] ∷ [] }

abbrev no_set : SetPart
no_set = record { marks = []; offsets = [] }

abbrev parts : Parts
parts = record { strings = 234 ∷ 237 ∷ 241 ∷ 247 ∷ 267 ∷ []; parameters = 196 ∷ []; starts = 196 ∷ []; classes = class_part ∷ []; sets = no_set ∷ no_set ∷ [] }

class_part_is : IsClassPart run_file run_program 0 run_class class_part
class_part_is = record {
  def = def_stands;
  lists = (234, class_data);
  directory = refl;
  pairs = record { fields = All-nil _; methods = All-nil _; parameters = All-nil _ };
  values = refl;
  few = tt;
  codes = (code_is, tt);
  refs = (refl, tt);
}

parts_are : AreParts run_file run_program parts
parts_are = record {
  strings = (
    refl,
    (
      is_32 run_file 112 234 refl refl,
      (is_32 run_file 116 237 refl refl, (is_32 run_file 120 241 refl refl, (is_32 run_file 124 247 refl refl, (is_32 run_file 128 267 refl refl, tt)))),
    ),
  );
  parameters = (refl, (is_32 run_file 152 196 refl refl, tt));
  lists = (ToOne 0 (below 0 1 refl) refl refl, tt);
  classes = (class_part_is, tt);
  interfaces = (ToNone refl refl, tt);
  sets = ((refl, refl), ((refl, refl), tt));
}

-- ---- where all stands

abbrev stops : Stops
stops = record { lists = 202; refs = 202; sets = 202; codes = 226; directories = 226; members = 234; strings = 272; lines = 272; marks = 272; values = 272 }

lie : LieInOrder run_file run_program parts stops
unfolding uleb_text unit_bytes text_bytes
lie = record {
  lists = (202, stands_at run_file 4 196 196 _ 202 refl refl refl refl refl refl refl refl refl refl, refl);
  refs = (202, Nothing refl refl refl, refl);
  sets = (202, Nothing refl refl refl, (202, Nothing refl refl refl, refl));
  codes = (226, stands_at run_file 4 202 204 _ 226 refl refl refl refl refl refl refl refl refl refl, refl);
  directories = (226, Nothing refl refl refl, refl);
  members = (234, stands_at run_file 1 226 226 _ 234 refl refl refl refl refl refl refl refl refl refl, refl);
  strings = (
    237,
    stands_at run_file 1 234 234 _ 237 refl refl refl refl refl refl refl refl refl refl,
    (
      241,
      stands_at run_file 1 237 237 _ 241 refl refl refl refl refl refl refl refl refl refl,
      (247, stands_at run_file 1 241 241 _ 247 refl refl refl refl refl refl refl refl refl refl, (267, stands_at run_file 1 247 247 _ 267 refl refl refl refl refl refl refl refl refl refl, (272, stands_at run_file 1 267 267 _ 272 refl refl refl refl refl refl refl refl refl refl, refl))),
    ),
  );
  lines = (272, Nothing refl refl refl, refl);
  marks = refl;
  values = (272, Nothing refl refl refl, refl);
}

map_stands : HasMap run_file run_program parts 272
map_stands = record {
  at = 272;
  next = record { behind = at_most 272 272 refl; near = below 272 276 refl; aligned = refl };
  zeros = zeros_at run_file 272 272 refl (here_at run_file 272 [] refl refl);
  is = here_at run_file 272 _ refl refl;
  last = refl;
  header = here_at run_file 44 _ refl refl;
}

-- the superclass is no class of the file
none_above : (class upper : ℕ) → IsAbove run_program class upper → upper < class
none_above zero upper above = absurd (grind arith)
none_above (suc class) upper above = absurd (grind arith)

pub valid : IsValidFor run_file run_program
valid = record { spelled = spelled; used = used; parts = parts; are = parts_are; stops = stops; lie = lie; map = map_stands; above_first = none_above }

pub signed : IsSigned run_file
unfolding first_words schedule rounds compress hash_after digest_bytes sha1
signed = refl

pub file : ValidFile run_file
file = record { program = run_program; valid = valid; signature = signed }
