-- The writer's tables and strings are those of the written program.
use Rattle.std.proofs.Common.{◌≡◌, ◌<◌, ◌+◌, ℕ, suc, List, [], ◌∷◌, ◌++◌, length, drop, refl, sym, ap, ◌∙◌, arith, map, get_or, Option}
use Rattle.std.specs.Prelude.{slice_get, Some}
use Rattle.std.proofs.lemmas.Option.{slice_get-get_or, get_or_from_slice_get}
use Rattle.std.proofs.Math.Seq.{drop-cons}
use Rattle.std.specs.List.{flat_map}
use Rattle.dex_pools.specs.declared.interner.Interner.{Interner}
use Rattle.dex_pools.specs.Written.{renumbered}
use Rattle.program_model.specs.declared.pass.Renumber.{Renumber}
use Rattle.program_model.specs.declared.pools.Proto.{Proto}
use Rattle.program_model.specs.declared.pools.FieldName.{FieldName}
use Rattle.program_model.specs.declared.pools.MethodName.{MethodName}
use Rattle.program_model.specs.declared.program.Program.{Program}
use Rattle.dex_write.specs.Numbers.{at_place}
use Rattle.dex_write.specs.Data.{string_texts}
use Rattle.dex_write.specs.Tables.{pair, type_words, proto_words, field_row, field_words, method_row, method_words}
use Rattle.dex_write.specs.Lists.{proto_use, protos_use, class_use, classes_use, all_lists, list_text}
use Rattle.dex_write.specs.Lists as writer
use Rattle.dex_write.specs.Plans.{Plan}
use Rattle.dex_defs.specs.Written.{entries, new_string, written_proto, written_field_name, written_method_name, written_by}
use Rattle.dex_defs.specs.Texts.{string_text}
use Rattle.write_laws.specs.Fits.{AllIn, OrdersIn}
use Rattle.dex_defs.specs.Texts as kept
use Rattle.write_laws.specs.Kinds.{SameCounts}
use Rattle.write_laws.proofs.Pools.{proto_rows}

-- an entry of a table in range
record Stands {X : Type 0} (table : List X) (n : ℕ) : Type 0 where
  x : X
  is : slice_get table n ≡ Some x

entry : {X : Type 0} (table : List X) (n : ℕ) → n < length table → Stands table n
entry [] n lt = absurd (omega (arith, lt))
entry (x ∷ xs) n lt = record { x = get_or (x ∷ xs) n x; is = slice_get-get_or (x ∷ xs) n x lt }

-- what is made of each entry is made of the written one
one_by_one : {X Y Z : Type 0} (f : X → Y) (h : ℕ → List Z) (g : Y → List Z) (table : List X) (order : List ℕ) → AllIn table order → ((n : ℕ) (x : X) → slice_get table n ≡ Some x → h n ≡ g (f x)) → flat_map h order ≡ flat_map g (entries f table order)
one_by_one f h g table [] fit e = refl
one_by_one f h g table (n ∷ ns) fit e =
    let s : Stands table n = entry table n fit.0 in
    rw (s.is, e n s.x s.is, one_by_one f h g table ns fit.1 e) refl

pub as_many : {X Y : Type 0} (f : X → Y) (table : List X) (order : List ℕ) → AllIn table order → length (entries f table order) ≡ length order
as_many f table [] fit = refl
as_many f table (n ∷ ns) fit =
    let s : Stands table n = entry table n fit.0 in
    rw s.is (ap suc (as_many f table ns fit.1))

-- ---- strings and types

pub strings_written : (strings : List (List ℕ)) (order : List ℕ) → AllIn strings order → map string_text (entries (λ text. text) strings order) ≡ string_texts strings order
strings_written strings [] fit = refl
strings_written strings (n ∷ ns) fit =
    let s : Stands strings n = entry strings n fit.0 in
    rw s.is (ap (λ (l : List (List ℕ)). string_text s.x ∷ l) (strings_written strings ns fit.1))

pub types_written : (r : Renumber) (types : List ℕ) (order : List ℕ) → AllIn types order → type_words r.strings.items types order ≡ entries (new_string r) types order
types_written r types [] fit = refl
types_written r types (n ∷ ns) fit =
    let s : Stands types n = entry types n fit.0 in
    let v : at_place types n ≡ s.x = get_or_from_slice_get types n s.x 0 s.is in
    rw (s.is, v) (ap (λ (l : List ℕ). renumbered r.strings.items s.x ∷ l) (types_written r types ns fit.1))

-- ---- fields, methods and protos

pub fields_written : (r : Renumber) (fields : List FieldName) (order : List ℕ) → AllIn fields order → field_words r fields order ≡ flat_map (λ f. pair f.class f.kind ∷ f.name ∷ []) (entries (written_field_name r) fields order)
fields_written r fields order fit = one_by_one (written_field_name r) (λ old. field_row r (slice_get fields old)) (λ f. pair f.class f.kind ∷ f.name ∷ []) fields order fit (λ n x e. ap (λ (o : Option FieldName). field_row r o) e)

pub methods_written : (r : Renumber) (methods : List MethodName) (order : List ℕ) → AllIn methods order → method_words r methods order ≡ flat_map (λ m. pair m.class m.proto ∷ m.name ∷ []) (entries (written_method_name r) methods order)
methods_written r methods order fit = one_by_one (written_method_name r) (λ old. method_row r (slice_get methods old)) (λ m. pair m.class m.proto ∷ m.name ∷ []) methods order fit (λ n x e. ap (λ (o : Option MethodName). method_row r o) e)

pub protos_written : (r : Renumber) (protos : List Proto) (offsets : List ℕ) (place : ℕ) (order : List ℕ) → AllIn protos order → place + length order ≡ length offsets → proto_words r protos offsets place order ≡ proto_rows (entries (written_proto r) protos order) (drop place offsets)
protos_written r protos offsets place [] fit e = refl
protos_written r protos offsets place (n ∷ ns) fit e =
    let s : Stands protos n = entry protos n fit.0 in
    let cons : drop place offsets ≡ get_or offsets place 0 ∷ drop (suc place) offsets = drop-cons offsets place 0 (omega (arith, e)) in
    rw (s.is, cons) (ap (λ (l : List ℕ). renumbered r.strings.items s.x.shorty ∷ renumbered r.types.items s.x.result ∷ get_or offsets place 0 ∷ l) (protos_written r protos offsets (suc place) ns fit.1 (omega (arith, e))))

-- ---- type lists

pub use_is : (r : Renumber) (p : Program) (order : List ℕ) → AllIn p.protos order → map (proto_use r.types.items p) order ≡ map (λ q. q.parameters) (entries (written_proto r) p.protos order)
use_is r p [] fit = refl
use_is r p (n ∷ ns) fit =
    let s : Stands p.protos n = entry p.protos n fit.0 in
    rw s.is (ap (λ (l : List (List ℕ)). map (renumbered r.types.items) s.x.parameters ∷ l) (use_is r p ns fit.1))

pub same_lists : (lists uses : List (List ℕ)) → all_lists lists uses ≡ kept.all_lists lists uses
same_lists lists [] = refl
same_lists lists ([] ∷ uses) = same_lists lists uses
same_lists lists ((n ∷ ns) ∷ uses) = same_lists (writer.with_list lists (n ∷ ns)) uses

lists_append : (lists xs ys : List (List ℕ)) → kept.all_lists lists (xs ++ ys) ≡ kept.all_lists (kept.all_lists lists xs) ys
lists_append lists [] ys = refl
lists_append lists (x ∷ xs) ys = lists_append (kept.with_list lists x) xs ys

pub lists_written : (p : Program) (i : Interner) (plans : List Plan) → AllIn p.protos i.order.protos.items → classes_use i plans ≡ map (λ c. c.interfaces) (written_by i p).classes → writer.type_lists p i plans ≡ kept.type_lists (written_by i p)
unfolding writer.type_lists
lists_written p i plans fit classes =
    let protos : protos_use p i ≡ map (λ q. q.parameters) (written_by i p).protos = use_is i.numbers p i.order.protos.items fit in
    same_lists (all_lists [] (protos_use p i)) (classes_use i plans)
    ∙ ap (λ l. kept.all_lists l (classes_use i plans)) (same_lists [] (protos_use p i))
    ∙ sym (lists_append [] (protos_use p i) (classes_use i plans))
    ∙ ap (λ (l : List (List ℕ)). kept.all_lists [] (l ++ classes_use i plans)) protos
    ∙ ap (λ (l : List (List ℕ)). kept.all_lists [] (map (λ q. q.parameters) (written_by i p).protos ++ l)) classes

-- ---- counts

pub counts_written : (p : Program) (i : Interner) (plans : List Plan) → OrdersIn p i → length (written_by i p).classes ≡ length plans → SameCounts i plans (written_by i p)
counts_written p i plans fit classes = record {
  strings = as_many (λ text. text) p.strings i.order.strings.items fit.strings;
  types = as_many (new_string i.numbers) p.types i.order.types.items fit.types;
  protos = as_many (written_proto i.numbers) p.protos i.order.protos.items fit.protos;
  fields = as_many (written_field_name i.numbers) p.fields i.order.fields.items fit.fields;
  methods = as_many (written_method_name i.numbers) p.methods i.order.methods.items fit.methods;
  classes = classes;
}
