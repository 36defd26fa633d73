-- The tables as they grow, and how they are kept while they do.
use Rattle.std.specs.Prelude.{◌≡◌, ◌<◌, ◌≤◌, ◌^◌, ℕ, ◌+◌, ◌&&◌, Bool, true, false, nat_eq, List, [], ◌∷◌, ◌++◌, map, length, sum_by, Option, Some, None, slice_get, slice_index_or, cond}
use Rattle.std.specs.List.{list_any}
use Rattle.std.specs.HashSet.{contains_by}
use Rattle.dex_base.specs.declared.text.Text.{Text}
use Rattle.program_model.specs.declared.pools.MethodName.{MethodName}
use Rattle.program_model.specs.declared.pools.Proto.{Proto}
use Rattle.program_model.specs.declared.program.Class.{Class}
use Rattle.program_model.specs.declared.program.Method.{Method}
use Rattle.program_model.specs.declared.program.Program.{Program}
use Rattle.program_model.specs.Distinct.{all_differ, text_key, proto_key}
use Rattle.static_protos.specs.declared.tables.Additions.{Additions}
use Rattle.static_protos.specs.declared.growth.Growth.{Growth}
use Rattle.static_protos.specs.declared.tables.Wanted.{Wanted}
use Rattle.static_protos.specs.Tables.{Tables, tables_of, shorty, wanted, has_room, with_new, proto_more, marks_more}

-- ---- tables that have grown

-- what the tables get stands behind what they had
pub record AreBehind (t u : Tables) : Type 0 where
  pub texts : List Text
  pub strings : u.strings ≡ t.strings ++ texts
  pub new : List Proto
  pub protos : u.protos ≡ t.protos ++ new

-- Tables of a program that keep the limits of files, have no entry twice, and have the short form of each proto.
pub record AreSound (p : Program) (t : Tables) : Type 0 where
  pub units : sum_by length t.strings ≤ 16777216
  pub items : t.items ≤ 16777216
  pub few_strings : length t.strings < 2 ^ 32
  pub few_protos : length t.protos ≤ 65535
  pub texts : all_differ text_key t.strings ≡ true
  pub keys : all_differ proto_key t.protos ≡ true
  pub shorties : (n : ℕ) (x : Proto) → slice_get t.protos n ≡ Some x → slice_get t.strings x.shorty ≡ Some (shorty p x.result x.parameters)

-- ---- methods in turn, of which some are marked

-- the tables with what a method needs, if they have room for it
abbrev pub room_with : Program → Tables → Wanted → Tables
room_with p t w = cond (has_room p t w) (with_new t w) t

abbrev pub room_by : Program → Tables → Class → Method → MethodName → Option Proto → Tables
room_by p t k m q None = t
room_by p t k m q (Some proto) = room_with p t (wanted p k m q proto)

abbrev pub room_named : Program → Tables → Class → Method → MethodName → Tables
room_named p t k m q = room_by p t k m q (slice_get p.protos q.proto)

abbrev pub room_entry : Program → Tables → Class → Method → Option MethodName → Tables
room_entry p t k m None = t
room_entry p t k m (Some q) = room_named p t k m q

abbrev pub room_for : Program → Tables → Class → Method → Tables
room_for p t k m = room_entry p t k m (slice_get p.methods m.name)

abbrev pub grown_method : Program → List Bool → Tables → Class → Method → Tables
grown_method p marks t k m = cond (slice_index_or marks m.name false) (room_for p t k m) t

abbrev pub grown_methods : Program → List Bool → Tables → Class → List Method → Tables
grown_methods p marks t k [] = t
grown_methods p marks t k (m ∷ ms) = grown_methods p marks (grown_method p marks t k m) k ms

abbrev pub grown_classes : Program → List Bool → Tables → List Class → Tables
grown_classes p marks t [] = t
grown_classes p marks t (k ∷ ks) = grown_classes p marks (grown_methods p marks t k k.methods) ks

-- the tables behind all marked methods of a program
abbrev pub grown : Program → List Bool → Tables
grown p marks = grown_classes p marks (tables_of p) p.classes

-- What the tables get, and the new protos by method number. They keep the limits of files.
pub record IsGrowth (p : Program) (t : Tables) (g : Growth) : Type 0 where
  pub strings : t.strings ≡ p.strings ++ g.strings.items
  pub protos : t.protos ≡ p.protos ++ g.protos.items
  pub given : t.given ≡ g.given.items

-- ---- the tables in code

abbrev pub texts_in : Additions → List (List ℕ)
texts_in a = map (λ v. v.items) a.texts.keys

abbrev pub keys_in : Additions → List (List ℕ)
keys_in a = map (λ v. v.items) a.keys.keys

abbrev pub is_pair : ℕ → ℕ → MethodName → Bool
is_pair name proto r = nat_eq r.name name && nat_eq r.proto proto

abbrev pub same_pair : ℕ × ℕ → ℕ × ℕ → Bool
same_pair a b = nat_eq a.0 b.0 && nat_eq a.1 b.1

abbrev pub units_more : Wanted → Option ℕ → ℕ
units_more w None = length w.text
units_more w (Some place) = 0

abbrev pub items_more : Wanted → Option ℕ → ℕ
items_more w place = proto_more w.parameters place + marks_more w.marked

-- the additions are those of tables
pub record IsGrown (p : Program) (t : Tables) (a : Additions) : Type 0 where
  pub strings : t.strings ≡ p.strings ++ a.new_strings.items
  pub protos : t.protos ≡ p.protos ++ a.new_protos.items
  pub given : t.given ≡ a.given.items
  pub texts : texts_in a ≡ t.strings
  pub keys : keys_in a ≡ map proto_key t.protos
  pub names : (name proto : ℕ) → contains_by (same_pair (name, proto)) a.names ≡ list_any (is_pair name proto) p.methods
  pub units : a.units ≡ sum_by length t.strings
  pub items : a.items ≡ t.items
  pub few_units : sum_by length t.strings ≤ 16777216
  pub few_items : t.items ≤ 16777216
  pub few_strings : length t.strings < 2 ^ 32
  pub few_protos : length t.protos ≤ 65535
