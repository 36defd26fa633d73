-- The kinds with which code begins, by number and by name.
use Rattle.std.proofs.Common.{◌≡◌, ℕ, zero, suc, ◌+◌, ◌-◌, ◌<◌, ◌≤◌, Bool, true, false, List, [], ◌∷◌, ◌++◌, map, replicate, length, Option, Some, None, refl, sym, ap, ◌∙◌, arith, append_assoc, length-append}
use Rattle.std.proofs.lemmas.List.Sums.{sum_by-cons}
use Rattle.std.specs.Prelude.{slice_get, slice_set, nat_le, sum_by, is_some, if◌then◌else◌}
use Rattle.std.specs.List.{list_all}
use Rattle.std.proofs.Math.Nat.{min-eq_left}
use Rattle.std.proofs.lemmas.Bool.{leb-true}
use Rattle.lemmas.proofs.Lists.{all_append, map_append}
use Rattle.class_defs.proofs.Positions.{number_of, both}
use Rattle.class_defs.proofs.WellFormed.{and_left, and_right}
use Rattle.program_model.specs.MemberRules.{has_flag, frame_fits, takes_words, receiver_words, words_of}
use Rattle.program_model.specs.MemberRules as rules
use Rattle.program_model.specs.declared.body.Body.{Body}
use Rattle.program_model.specs.declared.pools.Proto.{Proto}
use Rattle.program_model.specs.declared.program.Class.{Class}
use Rattle.program_model.specs.declared.program.Method.{Method}
use Rattle.program_model.specs.declared.program.Program.{Program}
use Rattle.dalvik_defs.specs.Flags as remainder
use Rattle.dalvik_defs.specs.Naming.{type_at, method_at, body_of, named_class, named_method, named}
use Rattle.name_bridge.proofs.Flags.{static_flag, interface_flag}
use Rattle.pass_defs.specs.Kinds as name
use Rattle.pass_defs.specs.Typed as typed
use Rattle.verify.specs.declared.kinds.Kind as number
use Rattle.verify.specs.declared.kinds.Kind.TheVariants as kind
use Rattle.verify.specs.declared.setting.Setting.{Setting}
use Rattle.verify.specs.declared.shapes.Shape.{Shape}
use Rattle.verify.specs.declared.shapes.Shape.TheVariants as shape
use Rattle.verify.specs.declared.tables.Tables.{Tables}
use Rattle.verify.specs.Entry.{put_parameter, behind_parameter, begun_from, begun_with, begun}
use Rattle.verify.specs.Flow.{greatest, next_of}
use Rattle.verify.specs.Methods.{constructs, receiver_of}
use Rattle.verify.specs.Names.{parameters_or, parameters_of}
use Rattle.verify.specs.Shapes as shapes
use Rattle.verify.specs.Types.{shape_of, kind_of, kind_of_shape}
use Rattle.type_bridge.specs.Numbered.{is_numbered}
use Rattle.type_bridge.specs.Views.{class_kind, kind_named, receiver_named, kinds_named}
use Rattle.type_bridge.proofs.BackFits.{type_numbered}
use Rattle.type_bridge.proofs.Told.{Told}
use Rattle.type_bridge.proofs.Texts.{sorts, kind_is}
use Rattle.type_bridge.proofs.Spelled.{word_same}
use Rattle.type_bridge.proofs.Members.{parameters_is, proto_is}
use Rattle.type_bridge.proofs.Grounds.{IsSet, constructs_is}
use Rattle.type_bridge.proofs.Bodies.{IsCode}

abbrev halves : number.Kind → List number.Kind
halves kind.WideLow = kind.WideLow ∷ kind.WideHigh ∷ []
halves k = k ∷ []

abbrev parameters : Tables → List ℕ → List number.Kind
parameters t [] = []
parameters t (k ∷ ks) = halves (kind_of t k) ++ parameters t ks

next_is : (n : ℕ) → n < greatest → next_of n ≡ n + 1
next_is n h = min-eq_left (omega (arith, h))

-- ---- the kinds are set behind one another

set_behind : (pre post : List number.Kind) (n : ℕ) (x k : number.Kind) → length pre ≡ n → slice_set (pre ++ x ∷ post) n k ≡ pre ++ k ∷ post
set_behind [] post zero x k e = refl
set_behind [] post (suc n) x k e = absurd (omega (arith, e))
set_behind (y ∷ pre) post zero x k e = absurd (omega (arith, e))
set_behind (y ∷ pre) post (suc n) x k e = ap (λ l. y ∷ l) (set_behind pre post n x k (omega (arith, e)))

-- so many more, behind those of a parameter
abbrev behind_by : number.Kind → ℕ → ℕ
behind_by kind.WideLow more = suc (suc more)
behind_by k more = suc more

count_by : (k : number.Kind) (more : ℕ) → length (halves k) + more ≡ behind_by k more
count_by kind.WideLow more = omega arith
count_by k more = omega arith

-- one parameter
record Puts (k : number.Kind) (pre : List number.Kind) (n more : ℕ) : Type 0 where
  puts : put_parameter k n (pre ++ replicate (behind_by k more) kind.Undefined) ≡ (pre ++ halves k) ++ replicate more kind.Undefined
  behind : behind_parameter k n ≡ n + length (halves k)

one_put : (k : number.Kind) (pre : List number.Kind) (n more : ℕ) → length pre ≡ n → slice_set (pre ++ replicate (suc more) kind.Undefined) n k ≡ (pre ++ k ∷ []) ++ replicate more kind.Undefined
one_put k pre n more e = set_behind pre (replicate more kind.Undefined) n kind.Undefined k e ∙ sym (append_assoc pre (k ∷ []) (replicate more kind.Undefined))

puts_of : (k : number.Kind) (pre : List number.Kind) (n more : ℕ) → length pre ≡ n → n + 1 < greatest → Puts k pre n more
puts_of kind.WideLow pre n more e h = record {
  puts = ap (λ x. slice_set (slice_set (pre ++ replicate (suc (suc more)) kind.Undefined) n kind.WideLow) x kind.WideHigh) (next_is n (omega (arith, h)))
      ∙ ap (λ l. slice_set l (n + 1) kind.WideHigh) (one_put kind.WideLow pre n (suc more) e)
      ∙ one_put kind.WideHigh (pre ++ kind.WideLow ∷ []) (n + 1) more (length-append pre (kind.WideLow ∷ []) ∙ ap (λ x. x + 1) e)
      ∙ ap (λ l. l ++ replicate more kind.Undefined) (append_assoc pre (kind.WideLow ∷ []) (kind.WideHigh ∷ []));
  behind = ap next_of (next_is n (omega (arith, h))) ∙ next_is (n + 1) h ∙ omega arith;
}
puts_of kind.WideHigh pre n more e h = record { puts = one_put kind.WideHigh pre n more e; behind = next_is n (omega (arith, h)) }
puts_of kind.Undefined pre n more e h = record { puts = one_put kind.Undefined pre n more e; behind = next_is n (omega (arith, h)) }
puts_of kind.Word pre n more e h = record { puts = one_put kind.Word pre n more e; behind = next_is n (omega (arith, h)) }
puts_of kind.Zero pre n more e h = record { puts = one_put kind.Zero pre n more e; behind = next_is n (omega (arith, h)) }
puts_of (kind.Fresh c q) pre n more e h = record { puts = one_put (kind.Fresh c q) pre n more e; behind = next_is n (omega (arith, h)) }
puts_of kind.FreshThis pre n more e h = record { puts = one_put kind.FreshThis pre n more e; behind = next_is n (omega (arith, h)) }
puts_of kind.Null pre n more e h = record { puts = one_put kind.Null pre n more e; behind = next_is n (omega (arith, h)) }
puts_of (kind.Program c) pre n more e h = record { puts = one_put (kind.Program c) pre n more e; behind = next_is n (omega (arith, h)) }
puts_of (kind.Array m i) pre n more e h = record { puts = one_put (kind.Array m i) pre n more e; behind = next_is n (omega (arith, h)) }
puts_of kind.Reference pre n more e h = record { puts = one_put kind.Reference pre n more e; behind = next_is n (omega (arith, h)) }

nothing_behind : (l : List number.Kind) → l ++ [] ≡ l
nothing_behind [] = refl
nothing_behind (x ∷ l) = ap (λ l. x ∷ l) (nothing_behind l)

from_is : (t : Tables) (ks : List ℕ) (pre : List number.Kind) (n : ℕ) → length pre ≡ n → n + length (parameters t ks) < greatest → begun_from t ks n (pre ++ replicate (length (parameters t ks)) kind.Undefined) ≡ pre ++ parameters t ks
from_is t [] pre n e h = refl
from_is t (k ∷ ks) pre n e h =
    let q = kind_of t k in
    let more = length (parameters t ks) in
    let all : length (halves q ++ parameters t ks) ≡ length (halves q) + more = length-append (halves q) (parameters t ks) in
    let w = some_words q in
    let r = puts_of q pre n more e (omega (arith, h, all, w)) in
    let long : length (pre ++ halves q) ≡ n + length (halves q) = length-append pre (halves q) ∙ ap (λ x. x + length (halves q)) e in
    ap (λ x. begun_from t ks (behind_parameter q n) (put_parameter q n (pre ++ replicate x kind.Undefined))) (all ∙ count_by q more)
    ∙ ap (λ l. begun_from t ks (behind_parameter q n) l) r.puts
    ∙ ap (λ x. begun_from t ks x ((pre ++ halves q) ++ replicate more kind.Undefined)) r.behind
    ∙ from_is t ks (pre ++ halves q) (n + length (halves q)) long (omega (arith, h, all))
    ∙ append_assoc pre (halves q) (parameters t ks)
  where
    some_words : (k : number.Kind) → 1 ≤ length (halves k)
    some_words kind.WideLow = omega arith
    some_words k = omega arith

none_more : (n : ℕ) → n ≡ 0 + n
none_more n = omega arith

one_more : (m n : ℕ) → suc (m + n) ≡ suc m + n
one_more m n = omega arith

one_first : (n : ℕ) → suc n ≡ 1 + n
one_first n = omega arith

replicate_sum : (m n : ℕ) → replicate m kind.Undefined ++ replicate n kind.Undefined ≡ replicate (m + n) kind.Undefined
replicate_sum zero n = ap (λ x. replicate x kind.Undefined) (none_more n)
replicate_sum (suc m) n = ap (λ l. kind.Undefined ∷ l) (replicate_sum m n) ∙ ap (λ x. replicate x kind.Undefined) (one_more m n)

replicate_long : (n : ℕ) → length (replicate n kind.Undefined) ≡ n
replicate_long zero = refl
replicate_long (suc n) = ap suc (replicate_long n)

-- ---- by name

map_replicate : (p : Program) (n : ℕ) → map (kind_named p) (replicate n kind.Undefined) ≡ replicate n name.Undefined
map_replicate p zero = refl
map_replicate p (suc n) = ap (λ l. name.Undefined ∷ l) (map_replicate p n)

halves_named : (p : Program) (k : number.Kind) → map (kind_named p) (halves k) ≡ typed.halves (kind_named p k)
halves_named p (kind.Program c) = by (slice_get p.classes c)
  where
    by : (o : Option Class) → class_kind p o ∷ [] ≡ typed.halves (class_kind p o)
    by None = refl
    by (Some k) = refl
halves_named p (kind.Array zero i) = refl
halves_named p (kind.Array (suc n) i) = refl
halves_named p k = refl

module _ (p : Program) (t : Tables) (d : Told p t) where
  parameters_named : (ks : List ℕ) → map (kind_named p) (parameters t ks) ≡ typed.parameter_kinds (named p) (map (type_at p) ks)
  parameters_named [] = refl
  parameters_named (k ∷ ks) = map_append (kind_named p) (halves (kind_of t k)) (parameters t ks)
      ∙ ap (λ l. l ++ map (kind_named p) (parameters t ks)) (halves_named p (kind_of t k) ∙ ap typed.halves (kind_is p t d k))
      ∙ ap (λ l. typed.halves (name.kind_of (named p) (type_at p k)) ++ l) (parameters_named ks)

  shape_words : (s : Shape) → length (halves (kind_of_shape s)) ≡ (if shapes.is_wide s then 2 else 1)
  shape_words shape.Void = refl
  shape_words shape.Int = refl
  shape_words (shape.Word w) = refl
  shape_words shape.Wide = refl
  shape_words (shape.Class None b) = refl
  shape_words (shape.Class (Some c) true) = refl
  shape_words (shape.Class (Some c) false) = refl
  shape_words (shape.Array n i) = refl

  words_long : (ks : List ℕ) → length (parameters t ks) ≡ sum_by (words_of p) ks
  words_long [] = refl
  words_long (k ∷ ks) =
      length-append (halves (kind_of t k)) (parameters t ks)
      ∙ ap (λ x. x + length (parameters t ks)) (shape_words (shape_of t k) ∙ ap (λ b. if b then 2 else 1) (sym (sorts p t d k).wide ∙ word_same p t d k))
      ∙ ap (λ x. words_of p k + x) (words_long ks)
      ∙ sym (sum_by-cons (words_of p) k ks)

module _ (s : Setting) (c : Class) (m : Method) (i : IsSet s c m) (b : Body) (code : IsCode s.program.now m b) where
  abbrev own : name.Kind
  own = name.kind_of (named s.program.now) (type_at s.program.now c.name)

  abbrev types : List ℕ
  types = parameters_of s.program.now m.name

  -- how many registers the receiver and the parameters take
  frame_of : frame_fits s.program.now m b ≡ true → (b.ins ≡ receiver_words m.flags + sum_by (words_of s.program.now) types) × (b.ins ≤ b.registers)
  unfolding frame_fits
  frame_of h = (words (rules.proto_of s.program.now m.name) (proto_is s.program.now s.tables.now i.told m.name i.name) (and_left (takes_words s.program.now m.flags (rules.proto_of s.program.now m.name) b.ins) (nat_le b.ins b.registers) h), leb-true b.ins b.registers (and_right (takes_words s.program.now m.flags (rules.proto_of s.program.now m.name) b.ins) (nat_le b.ins b.registers) h))
    where
      words : (o : Option Proto) → o ≡ Some i.name.proto → takes_words s.program.now m.flags o b.ins ≡ true → b.ins ≡ receiver_words m.flags + sum_by (words_of s.program.now) types
      words o e h = number_of b.ins _ (ap (λ o. takes_words s.program.now m.flags o b.ins) (sym e) ∙ h)
          ∙ ap (λ ks. receiver_words m.flags + sum_by (words_of s.program.now) ks) (sym (ap parameters_or (proto_is s.program.now s.tables.now i.told m.name i.name)))

  abbrev free : ℕ
  free = b.registers - b.ins

  -- the receiver and the parameters
  abbrev arguments : Option number.Kind → List number.Kind
  arguments None = parameters s.tables.now types
  arguments (Some k) = k ∷ parameters s.tables.now types

  -- the receiver by number
  abbrev head : number.Kind
  head = if constructs s.tables.now m then kind.FreshThis else if has_flag c.flags 512 then kind.Reference else kind.Program s.class

  abbrev receiver_by : Bool → Option number.Kind
  receiver_by static = if static then None else Some head

  abbrev held : Option number.Kind
  held = receiver_of c s.class m (constructs s.tables.now m)

  held_is : held ≡ receiver_by (has_flag m.flags 8)
  held_is = by (has_flag m.flags 8) (constructs s.tables.now m) (has_flag c.flags 512)
    where
      by : (x y z : Bool) → ◌≡◌ {A = Option number.Kind} (if x then None else if y then Some kind.FreshThis else if z then Some kind.Reference else Some (kind.Program s.class)) (if x then None else Some (if y then kind.FreshThis else if z then kind.Reference else kind.Program s.class))
      by true y z = refl
      by false true z = refl
      by false false true = refl
      by false false false = refl

  long_by : (x : Bool) → length (arguments (receiver_by x)) ≡ (if x then 0 else 1) + length (parameters s.tables.now types)
  long_by true = none_more (length (parameters s.tables.now types))
  long_by false = one_first (length (parameters s.tables.now types))

  count_is : length (arguments held) ≡ b.ins
  count_is = ap (λ o. length (arguments o)) held_is ∙ long_by (has_flag m.flags 8) ∙ ap (λ x. receiver_words m.flags + x) (words_long s.program.now s.tables.now i.told types) ∙ sym (frame_of code.frame).0

  registers_are : (o : Option number.Kind) → length (arguments o) ≡ b.ins → begun_with s.tables.now o types free (replicate b.registers kind.Undefined) ≡ replicate free kind.Undefined ++ arguments o
  registers_are o e = ap (λ x. begun_with s.tables.now o types free (replicate x kind.Undefined)) count ∙ ap (begun_with s.tables.now o types free) (sym (replicate_sum free (length (arguments o)))) ∙ by o e
    where
      fits : b.ins ≤ b.registers
      fits = (frame_of code.frame).1

      count : b.registers ≡ free + length (arguments o)
      count = omega (arith, fits, e)

      by : (o : Option number.Kind) → length (arguments o) ≡ b.ins → begun_with s.tables.now o types free (replicate free kind.Undefined ++ replicate (length (arguments o)) kind.Undefined) ≡ replicate free kind.Undefined ++ arguments o
      by None e = from_is s.tables.now types (replicate free kind.Undefined) free (replicate_long free) (let f = code.few in omega (arith, f, fits, e))
      by (Some k) e =
          let long = replicate_long free in
          let f = code.few in
          ap (begun_from s.tables.now types (next_of free)) (one_put k (replicate free kind.Undefined) free (length (parameters s.tables.now types)) long)
          ∙ ap (λ x. begun_from s.tables.now types x ((replicate free kind.Undefined ++ k ∷ []) ++ replicate (length (parameters s.tables.now types)) kind.Undefined)) (next_is free (omega (arith, f, fits)))
          ∙ from_is s.tables.now types (replicate free kind.Undefined ++ k ∷ []) (free + 1) (length-append (replicate free kind.Undefined) (k ∷ []) ∙ ap (λ x. x + 1) long) (omega (arith, f, fits, e))
          ∙ append_assoc (replicate free kind.Undefined) (k ∷ []) (parameters s.tables.now types)

  head_named : kind_named s.program.now head ≡ typed.receiver_kind (named_class s.program.now c) (named_method s.program.now m)
  head_named = by (constructs s.tables.now m) (has_flag c.flags 512)
      ∙ ap (λ x. if x then name.FreshThis else if has_flag c.flags 512 then name.Reference else name.Class (type_at s.program.now c.name)) (sym i.begins ∙ constructs_is s c m i)
      ∙ ap (λ x. if typed.is_constructor (named_method s.program.now m) then name.FreshThis else if x then name.Reference else name.Class (type_at s.program.now c.name)) (interface_flag c.flags)
    where
      by : (x y : Bool) → kind_named s.program.now (if x then kind.FreshThis else if y then kind.Reference else kind.Program s.class) ≡ (if x then name.FreshThis else if y then name.Reference else name.Class (type_at s.program.now c.name))
      by true y = refl
      by false true = refl
      by false false = ap (class_kind s.program.now) i.class

  named_by : (x : Bool) → map (kind_named s.program.now) (arguments (receiver_by x))
      ≡ elim x as (λ x. List name.Kind) [ true ↦ map (kind_named s.program.now) (parameters s.tables.now types) | false ↦ kind_named s.program.now head ∷ map (kind_named s.program.now) (parameters s.tables.now types) ]
  named_by true = refl
  named_by false = refl

  arguments_named : map (kind_named s.program.now) (arguments held) ≡ typed.argument_kinds (named s.program.now) (named_class s.program.now c) (named_method s.program.now m)
  arguments_named =
      ap (λ o. map (kind_named s.program.now) (arguments o)) held_is
      ∙ named_by (has_flag m.flags 8)
      ∙ ap (λ x. elim x as (λ x. List name.Kind) [ true ↦ map (kind_named s.program.now) (parameters s.tables.now types) | false ↦ kind_named s.program.now head ∷ map (kind_named s.program.now) (parameters s.tables.now types) ]) (static_flag m.flags)
      ∙ ap (λ l. elim (remainder.is_static m.flags.0) as (λ x. List name.Kind) [ true ↦ l | false ↦ kind_named s.program.now head ∷ l ]) (parameters_named s.program.now s.tables.now i.told types ∙ ap (typed.parameter_kinds (named s.program.now)) (parameters_is s.program.now s.tables.now i.told m.name i.name))
      ∙ ap (λ k. elim (remainder.is_static m.flags.0) as (λ x. List name.Kind) [ true ↦ typed.parameter_kinds (named s.program.now) (method_at s.program.now m.name).signature.parameters | false ↦ k ∷ typed.parameter_kinds (named s.program.now) (method_at s.program.now m.name).signature.parameters ]) head_named

  receiver_begun : (x : Bool) → (if x then name.FreshThis else name.Undefined) ≡ receiver_named own (if x then kind.FreshThis else kind.Undefined)
  receiver_begun true = refl
  receiver_begun false = refl

  -- the kinds at the entry
  pub begun_named : typed.begun (named s.program.now) (named_class s.program.now c) (named_method s.program.now m) (body_of s.program.now b) ≡ kinds_named s.program.now own (begun s b held types)
  begun_named =
      ap (λ r. record { registers = replicate free name.Undefined ++ typed.argument_kinds (named s.program.now) (named_class s.program.now c) (named_method s.program.now m); result = name.Undefined; caught = name.Undefined; receiver = r })
      (ap (λ x. if x then name.FreshThis else name.Undefined) (sym (constructs_is s c m i)) ∙ receiver_begun s.constructs)
      ∙ ap (λ l. record { registers = l; result = name.Undefined; caught = name.Undefined; receiver = receiver_named own (if s.constructs then kind.FreshThis else kind.Undefined) })
      (ap (λ l. l ++ typed.argument_kinds (named s.program.now) (named_class s.program.now c) (named_method s.program.now m)) (sym (map_replicate s.program.now free))
      ∙ ap (λ l. map (kind_named s.program.now) (replicate free kind.Undefined) ++ l) (sym arguments_named)
      ∙ sym (map_append (kind_named s.program.now) (replicate free kind.Undefined) (arguments held))
      ∙ ap (map (kind_named s.program.now)) (sym (registers_are held count_is)))

  -- ---- they have numbers

  none_numbered : (n : ℕ) → list_all (is_numbered s.program.now) (replicate n kind.Undefined) ≡ true
  none_numbered zero = refl
  none_numbered (suc n) = none_numbered n

  halves_numbered : (k : number.Kind) → is_numbered s.program.now k ≡ true → list_all (is_numbered s.program.now) (halves k) ≡ true
  halves_numbered kind.WideLow e = refl
  halves_numbered k e = both (is_numbered s.program.now k) true e refl

  parameters_numbered : (ks : List ℕ) → list_all (is_numbered s.program.now) (parameters s.tables.now ks) ≡ true
  parameters_numbered [] = refl
  parameters_numbered (k ∷ ks) = all_append (is_numbered s.program.now) (halves (kind_of s.tables.now k)) (parameters s.tables.now ks) (halves_numbered (kind_of s.tables.now k) (type_numbered s.program.now s.tables.now i.told k)) (parameters_numbered ks)

  head_numbered : is_numbered s.program.now head ≡ true
  head_numbered = by (constructs s.tables.now m) (has_flag c.flags 512)
    where
      by : (x y : Bool) → is_numbered s.program.now (if x then kind.FreshThis else if y then kind.Reference else kind.Program s.class) ≡ true
      by true y = refl
      by false true = refl
      by false false = ap is_some i.class

  arguments_numbered : (x : Bool) → list_all (is_numbered s.program.now) (arguments (receiver_by x)) ≡ true
  arguments_numbered true = parameters_numbered types
  arguments_numbered false = both (is_numbered s.program.now head) (list_all (is_numbered s.program.now) (parameters s.tables.now types)) head_numbered (parameters_numbered types)

  pub begun_numbered : list_all (is_numbered s.program.now) (begun s b held types).registers ≡ true
  begun_numbered =
      ap (list_all (is_numbered s.program.now)) (registers_are held count_is)
      ∙ all_append (is_numbered s.program.now) (replicate free kind.Undefined) (arguments held) (none_numbered free)
      (ap (λ o. list_all (is_numbered s.program.now) (arguments o)) held_is ∙ arguments_numbered (has_flag m.flags 8))
