-- The written file has the tables of the written program: its strings, types, protos, fields and methods are spelled.
use Rattle.std.proofs.Common.{◌≡◌, ◌<◌, ◌%◌, ◌^◌, ℕ, zero, suc, List, [], ◌∷◌, ◌++◌, length, refl, sym, ap, subst, ◌∙◌, arith, map}
use Rattle.std.specs.Prelude.{slice_get, Some}
use Rattle.std.specs.Int.{w16, to_le_bytes}
use Rattle.std.specs.List.{flat_map}
use Rattle.dex_pools.specs.declared.interner.Interner.{Interner}
use Rattle.dex_pools.specs.Spelled.{SpellsPools}
use Rattle.program_model.specs.declared.program.Program.{Program}
use Rattle.dex_write.specs.declared.tables.ClassOffsets.{ClassOffsets}
use Rattle.dex_write.specs.Numbers.{words}
use Rattle.dex_write.specs.Plans.{Plan}
use Rattle.dex_write.specs.Lists.{list_text, list_starts, type_lists, lists_at, protos_use, classes_use, all_lists, indexes_of, used_offset, with_list}
use Rattle.dex_write.specs.Tables.{pair, class_words, table_words}
use Rattle.dex_write.specs.File.{data_at}
use Rattle.dex_write.specs.Places.{front_of, counts_of, parts_in, file_for, back_of}
use Rattle.dex_defs.specs.Spells.{pools_of}
use Rattle.dex_defs.specs.Written.{written_by}
use Rattle.dex_defs.specs.Texts.{string_text, type_list_text}
use Rattle.dex_defs.specs.Arranged.{Lie, IsAt, Nothing, Something, Both, LeadsTo, ToNone, ToOne}
use Rattle.write_laws.specs.Fits.{TablesFit, OrdersIn}
use Rattle.write_laws.specs.Kinds.{SameCounts}
use Rattle.write_laws.specs.Placing.{AllLie, stops_of}
use Rattle.write_laws.proofs.Here.{here_same}
use Rattle.write_laws.proofs.Numbers.{Few}
use Rattle.write_laws.proofs.Placing.{FitsPlans}
use Rattle.write_laws.proofs.Whole.{file_placed, file_lies}
use Rattle.write_laws.proofs.Final.{file_head}
use Rattle.write_laws.proofs.Pools.{pools_spelled, proto_rows}
use Rattle.write_laws.proofs.Written.{strings_written, types_written, protos_written, fields_written, methods_written, use_is}
use Rattle.write_laws.proofs.Leading.{all_grown, uses_lead, starts_long, both_map}

-- ---- offsets are below the size of the file

at_few : (bytes : List ℕ) (align from offset : ℕ) (text : List ℕ) (stop : ℕ) → length bytes < 2 ^ 32 → IsAt bytes align from offset text stop → offset < 2 ^ 32
at_few bytes align from offset text stop few (Nothing a b c) = omega (arith, a)
at_few bytes align from offset text stop few (Something a b c d e f) = omega (arith, few, e.inside)

pub lie_few : (bytes : List ℕ) (align from : ℕ) (offsets : List ℕ) (texts : List (List ℕ)) (to : ℕ) → length bytes < 2 ^ 32 → Lie bytes align from offsets texts to → Few offsets
lie_few bytes align from [] [] to few h = tt
lie_few bytes align from [] (t ∷ ts) to few h = absurd h
lie_few bytes align from (o ∷ os) [] to few h = absurd h
lie_few bytes align from (o ∷ os) (t ∷ ts) to few h = (at_few bytes align from o t h.0 few h.1, lie_few bytes align h.0 os ts to few h.2)

few_at : (os : List ℕ) (k o : ℕ) → Few os → slice_get os k ≡ Some o → o < 2 ^ 32
few_at [] k o f e = absurd cc
few_at (a ∷ os) zero o f e = let s : a ≡ o = cc in omega (arith, s, f.0)
few_at (a ∷ os) (suc k) o f e = few_at os k o f.1 e

lead_few : (lists : List (List ℕ)) (starts list : List ℕ) (o : ℕ) → Few starts → LeadsTo lists starts list o → o < 2 ^ 32
lead_few lists starts list o f (ToNone a b) = omega (arith, b)
lead_few lists starts list o f (ToOne k lt e g) = few_at starts k o f g

pub leads_few : {X : Type 0} (lists : List (List ℕ)) (starts : List ℕ) (p : X → List ℕ) (xs : List X) (offsets : List ℕ) → Few starts → Both (λ x o. LeadsTo lists starts (p x) o) xs offsets → Few offsets
leads_few lists starts p [] [] f h = tt
leads_few lists starts p [] (o ∷ os) f h = absurd h
leads_few lists starts p (x ∷ xs) [] f h = absurd h
leads_few lists starts p (x ∷ xs) (o ∷ os) f h = (lead_few lists starts (p x) o f h.0, leads_few lists starts p xs os f h.1)

-- ---- the text of a type list

same_half : (n : ℕ) → to_le_bytes w16 (n % 65536) ≡ to_le_bytes w16 n
same_half n = same_two _ _ _ _ (omega arith) (omega arith)
  where
    same_two : (a b x y : ℕ) → a ≡ x → b ≡ y → a ∷ b ∷ [] ≡ x ∷ y ∷ []
    same_two a b x y p q = cc

same_halves : (list : List ℕ) → flat_map (λ kind. to_le_bytes w16 (kind % 65536)) list ≡ flat_map (to_le_bytes w16) list
same_halves [] = refl
same_halves (n ∷ ns) = ap (λ (l : List ℕ). l ++ flat_map (λ kind. to_le_bytes w16 (kind % 65536)) ns) (same_half n) ∙ ap (λ (l : List ℕ). to_le_bytes w16 n ++ l) (same_halves ns)

list_same : (list : List ℕ) → list_text list ≡ type_list_text list
unfolding words
list_same list = ap (λ (l : List ℕ). words (length list ∷ []) ++ l) (same_halves list)

pub lists_same : (lists : List (List ℕ)) → map list_text lists ≡ map type_list_text lists
lists_same [] = refl
lists_same (list ∷ lists) = ap (λ (l : List ℕ). l ∷ map list_text lists) (list_same list) ∙ ap (λ (l : List (List ℕ)). type_list_text list ∷ l) (lists_same lists)

-- ---- the tables' words are those of the written program

pub parameters_long : (p : Program) (i : Interner) (plans : List Plan) → length (front_of p i plans (data_at (counts_of i plans))).lists.parameters ≡ length i.order.protos.items
unfolding front_of lists_at
parameters_long p i plans = map_long (used_offset (list_starts (data_at (counts_of i plans)) (type_lists p i plans))) (indexes_of [] (protos_use p i)) ∙ indexes_long [] (protos_use p i) ∙ map_long _ i.order.protos.items
  where
    map_long : {X Y : Type 0} (f : X → Y) (xs : List X) → length (map f xs) ≡ length xs
    map_long f [] = refl
    map_long f (x ∷ xs) = ap suc (map_long f xs)

    indexes_long : (lists uses : List (List ℕ)) → length (indexes_of lists uses) ≡ length uses
    indexes_long lists [] = refl
    indexes_long lists (one ∷ uses) = ap suc (indexes_long (with_list lists one) uses)

pub tables_are : (p : Program) (i : Interner) (plans : List Plan) (strings parameters : List ℕ) (offsets : ClassOffsets) → OrdersIn p i → length parameters ≡ length i.order.protos.items
    → table_words p i plans strings parameters offsets ≡ strings ++ ((written_by i p).types ++ (proto_rows (written_by i p).protos parameters ++ (flat_map (λ f. pair f.class f.kind ∷ f.name ∷ []) (written_by i p).fields ++ (flat_map (λ m. pair m.class m.proto ∷ m.name ∷ []) (written_by i p).methods ++ class_words i.numbers offsets 0 plans))))
unfolding table_words
tables_are p i plans strings parameters offsets in_range long =
    rw (types_written i.numbers p.types i.order.types.items in_range.types, protos_written i.numbers p.protos parameters 0 i.order.protos.items in_range.protos (omega (arith, long)), fields_written i.numbers p.fields i.order.fields.items in_range.fields, methods_written i.numbers p.methods i.order.methods.items in_range.methods) refl

pub file_leads : (p : Program) (i : Interner) (plans : List Plan) → OrdersIn p i → Both (λ x offset. LeadsTo (type_lists p i plans) (list_starts (data_at (counts_of i plans)) (type_lists p i plans)) x.parameters offset) (written_by i p).protos (front_of p i plans (data_at (counts_of i plans))).lists.parameters
unfolding front_of lists_at type_lists
file_leads p i plans in_range =
    let all : List (List ℕ) = all_lists (all_lists [] (protos_use p i)) (classes_use i plans) in
    let starts : List ℕ = list_starts (data_at (counts_of i plans)) all in
    let leads : Both (LeadsTo all starts) (protos_use p i) (map (used_offset starts) (indexes_of [] (protos_use p i))) = uses_lead all starts [] (protos_use p i) (starts_long (data_at (counts_of i plans)) all) (all_grown (all_lists [] (protos_use p i)) (classes_use i plans)) in
    both_map (LeadsTo all starts) (λ q. q.parameters) (written_by i p).protos _ (subst (λ l. Both (LeadsTo all starts) l (map (used_offset starts) (indexes_of [] (protos_use p i)))) (use_is i.numbers p i.order.protos.items in_range.protos) leads)

-- ---- the five tables

pub file_pools : (p : Program) (i : Interner) (plans : List Plan) → FitsPlans p i plans → OrdersIn p i → SameCounts i plans (written_by i p) → length (file_for p i plans) < 2 ^ 32 → TablesFit (written_by i p) → SpellsPools (file_for p i plans) 16777216 (pools_of (written_by i p))
file_pools p i plans fits in_range counts few tables =
    let bytes : List ℕ = file_for p i plans in
    let lies : AllLie bytes p i plans = file_lies p i plans fits in
    let offsets = (parts_in (front_of p i plans (data_at (counts_of i plans))) (back_of p i.numbers plans (front_of p i plans (data_at (counts_of i plans))))).offsets in
    let starts : List ℕ = list_starts (data_at (counts_of i plans)) (type_lists p i plans) in
    let leads : Both (λ x offset. LeadsTo (type_lists p i plans) starts x.parameters offset) (written_by i p).protos (front_of p i plans (data_at (counts_of i plans))).lists.parameters = file_leads p i plans in_range in
    let lists : Lie bytes 4 (data_at (counts_of i plans)) starts (map type_list_text (type_lists p i plans)) (stops_of p i plans).lists = subst (λ l. Lie bytes 4 (data_at (counts_of i plans)) starts l (stops_of p i plans).lists) (lists_same (type_lists p i plans)) lies.lists in
    let strings : Lie bytes 1 (stops_of p i plans).members (front_of p i plans (data_at (counts_of i plans))).strings.offsets (map string_text (written_by i p).strings) (stops_of p i plans).strings = subst (λ l. Lie bytes 1 (stops_of p i plans).members (front_of p i plans (data_at (counts_of i plans))).strings.offsets l (stops_of p i plans).strings) (sym (strings_written p.strings i.order.strings.items in_range.strings)) lies.strings in
    pools_spelled bytes (written_by i p) (front_of p i plans (data_at (counts_of i plans))).strings.offsets (front_of p i plans (data_at (counts_of i plans))).lists.parameters (class_words i.numbers offsets 0 plans) tables (record {
      extents = (file_head p i plans (written_by i p) fits few counts).header.extents;
      few_strings = lie_few bytes 1 (stops_of p i plans).members (front_of p i plans (data_at (counts_of i plans))).strings.offsets (map string_text (written_by i p).strings) (stops_of p i plans).strings few strings;
      few_parameters = leads_few (type_lists p i plans) starts (λ x. x.parameters) (written_by i p).protos (front_of p i plans (data_at (counts_of i plans))).lists.parameters (lie_few bytes 4 (data_at (counts_of i plans)) starts (map type_list_text (type_lists p i plans)) (stops_of p i plans).lists few lists) leads;
      tables = here_same bytes 112 _ _ (ap words (tables_are p i plans (front_of p i plans (data_at (counts_of i plans))).strings.offsets (front_of p i plans (data_at (counts_of i plans))).lists.parameters offsets in_range (parameters_long p i plans))) (file_placed p i plans fits).tables;
      strings_from = (stops_of p i plans).members;
      strings_to = (stops_of p i plans).strings;
      strings_lie = strings;
      lists_from = (data_at (counts_of i plans));
      starts = starts;
      lists = type_lists p i plans;
      lists_to = (stops_of p i plans).lists;
      lists_lie = lists;
      leads = leads;
    })
