-- A file is valid for the written program where its classes and their items are those of the program: the rest is proved.
use Rattle.std.proofs.Common.{◌≡◌, ◌<◌, ◌+◌, ◌*◌, ◌^◌, ℕ, suc, List, [], ◌∷◌, ◌++◌, length, refl, sym, ap, subst, ◌∙◌, arith, map}
use Rattle.std.specs.List.{flat_map}
use Rattle.dex_base.specs.Word.{Is32}
use Rattle.dex_base.specs.Decides.{Each}
use Rattle.dex_pools.specs.declared.interner.Interner.{Interner}
use Rattle.program_model.specs.declared.pools.Proto.{Proto}
use Rattle.program_model.specs.declared.program.Program.{Program}
use Rattle.dex_write.specs.Numbers.{words}
use Rattle.dex_write.specs.Plans.{Plan}
use Rattle.dex_write.specs.Lists.{list_starts, type_lists}
use Rattle.dex_write.specs.Tables.{pair, class_words}
use Rattle.dex_write.specs.File.{data_at, IsSealed}
use Rattle.dex_write.specs.Order.{classes_at}
use Rattle.dex_write.specs.Places.{counts_of, parts_in, file_for, front_of, back_of}
use Rattle.dex_write.specs.Written as writer
use Rattle.dex_defs.specs.Written.{written_by}
use Rattle.dex_defs.specs.Here.{Here}
use Rattle.dex_defs.specs.Valid as valid
use Rattle.dex_defs.specs.Arranged.{Both, LeadsTo}
use Rattle.dex_defs.specs.Texts as kept
use Rattle.write_laws.specs.Kinds.{SameCounts, Kinds, Rest, IsValidFile, parts_with}
use Rattle.write_laws.specs.Fits.{OrdersIn}
use Rattle.write_laws.specs.Placing.{AllLie, stops_of}
use Rattle.dex_defs.specs.Valid.{ClassPart, SetPart, IsValidFor}
use Rattle.write_laws.proofs.Here.{here_left, here_is, here_same}
use Rattle.write_laws.proofs.Numbers.{Few, here_words, first_word, other_words, words_append}
use Rattle.write_laws.proofs.Placing.{FitsPlans}
use Rattle.write_laws.proofs.Whole.{file_placed, file_lies, strings_length}
use Rattle.write_laws.proofs.Final.{file_is_valid}
use Rattle.write_laws.proofs.Pools.{proto_rows, words_at}
use Rattle.write_laws.proofs.Written.{strings_written, lists_written, counts_written}
use Rattle.write_laws.proofs.Ordering.{orders_in}
use Rattle.write_laws.proofs.Coded.{plans_fit}
use Rattle.write_laws.proofs.Slice.{file_pools, file_leads, tables_are, parameters_long, lie_few, leads_few, lists_same}

-- the third number of each row of the protos
third_words : (bytes : List ℕ) (at k : ℕ) (P : Proto → ℕ → Type 0) (protos : List Proto) (offsets : List ℕ) → Few offsets → Both P protos offsets → Here bytes (at + 12 * k) (words (proto_rows protos offsets)) → Each (λ i o. Is32 bytes (at + 12 * i + 8) o) k offsets
third_words bytes at k P [] [] few b h = tt
third_words bytes at k P [] (o ∷ os) few b h = absurd b
third_words bytes at k P (q ∷ qs) [] few b h = absurd b
third_words bytes at k P (q ∷ qs) (o ∷ os) few b h =
    let rest : List ℕ = proto_rows qs os in
    let h1 : Here bytes (at + 12 * k + 4) (words (q.result ∷ o ∷ rest)) = other_words bytes (at + 12 * k) q.shorty (q.result ∷ o ∷ rest) h in
    let h2 : Here bytes (at + 12 * k + 8) (words (o ∷ rest)) = here_is bytes (at + 12 * k + 4 + 4) (at + 12 * k + 8) _ (omega arith) (other_words bytes (at + 12 * k + 4) q.result (o ∷ rest) h1) in
    (first_word bytes (at + 12 * k + 8) o rest few.0 h2, third_words bytes at (suc k) P qs os few.1 b.1 (here_is bytes (at + 12 * k + 8 + 4) (at + 12 * suc k) _ (omega arith) (other_words bytes (at + 12 * k + 8) o rest h2)))

both_long : {X Y : Type 0} (P : X → Y → Type 0) (xs : List X) (ys : List Y) → Both P xs ys → length ys ≡ length xs
both_long P [] [] b = refl
both_long P [] (y ∷ ys) b = absurd b
both_long P (x ∷ xs) [] b = absurd b
both_long P (x ∷ xs) (y ∷ ys) b = ap suc (both_long P xs ys b.1)

rest_kinds : (p : Program) (i : Interner) (plans : List Plan) (classes : List ClassPart) (sets : List SetPart) → FitsPlans p i plans → OrdersIn p i → length (file_for p i plans) < 2 ^ 32 → Rest (file_for p i plans) p i plans (written_by i p) classes sets → Kinds (file_for p i plans) p i plans (written_by i p) (parts_with p i plans classes sets)
rest_kinds p i plans classes sets fits orders few x =
    let bytes : List ℕ = file_for p i plans in
    let counts : SameCounts i plans (written_by i p) = counts_written p i plans orders x.many in
    let lies : AllLie bytes p i plans = file_lies p i plans fits in
    let starts : List ℕ = list_starts (data_at (counts_of i plans)) (type_lists p i plans) in
    let lists : type_lists p i plans ≡ kept.type_lists (written_by i p) = lists_written p i plans orders.protos x.uses in
    let leads : Both (λ y offset. LeadsTo (type_lists p i plans) starts y.parameters offset) (written_by i p).protos (front_of p i plans (data_at (counts_of i plans))).lists.parameters = file_leads p i plans orders in
    let offsets = (parts_in (front_of p i plans (data_at (counts_of i plans))) (back_of p i.numbers plans (front_of p i plans (data_at (counts_of i plans))))).offsets in
    let few_strings : Few (front_of p i plans (data_at (counts_of i plans))).strings.offsets = lie_few bytes 1 (stops_of p i plans).members (front_of p i plans (data_at (counts_of i plans))).strings.offsets _ (stops_of p i plans).strings few lies.strings in
    let few_parameters : Few (front_of p i plans (data_at (counts_of i plans))).lists.parameters = leads_few (type_lists p i plans) starts (λ y. y.parameters) (written_by i p).protos (front_of p i plans (data_at (counts_of i plans))).lists.parameters (lie_few bytes 4 (data_at (counts_of i plans)) starts _ (stops_of p i plans).lists few lies.lists) leads in
    let tables : Here bytes 112 (words ((front_of p i plans (data_at (counts_of i plans))).strings.offsets ++ ((written_by i p).types ++ (proto_rows (written_by i p).protos (front_of p i plans (data_at (counts_of i plans))).lists.parameters ++ (flat_map (λ f. pair f.class f.kind ∷ f.name ∷ []) (written_by i p).fields ++ (flat_map (λ m. pair m.class m.proto ∷ m.name ∷ []) (written_by i p).methods ++ class_words i.numbers offsets 0 plans)))))) = here_same bytes 112 _ _ (ap words (tables_are p i plans (front_of p i plans (data_at (counts_of i plans))).strings.offsets (front_of p i plans (data_at (counts_of i plans))).lists.parameters offsets orders (parameters_long p i plans))) (file_placed p i plans fits).tables in
    let many : length (front_of p i plans (data_at (counts_of i plans))).strings.offsets ≡ length (written_by i p).strings = strings_length p i plans ∙ sym counts.strings in
    let rest2 : List ℕ = flat_map (λ f. pair f.class f.kind ∷ f.name ∷ []) (written_by i p).fields ++ (flat_map (λ m. pair m.class m.proto ∷ m.name ∷ []) (written_by i p).methods ++ class_words i.numbers offsets 0 plans) in
    let protos : List ℕ = proto_rows (written_by i p).protos (front_of p i plans (data_at (counts_of i plans))).lists.parameters in
    let a = words_at bytes 112 (valid.types_at (written_by i p)) (front_of p i plans (data_at (counts_of i plans))).strings.offsets ((written_by i p).types ++ (protos ++ rest2)) (omega (arith, many)) tables in
    let b = words_at bytes (valid.types_at (written_by i p)) (valid.protos_at (written_by i p)) (written_by i p).types (protos ++ rest2) (omega arith) a.1 in
    let c : Here bytes (valid.protos_at (written_by i p)) (words protos) = here_left bytes (valid.protos_at (written_by i p)) (words protos) (words rest2) (here_same bytes (valid.protos_at (written_by i p)) _ _ (words_append protos rest2) b.1) in
    record {
      counts = counts;
      pools = file_pools p i plans fits orders counts few x.tables;
      classes = x.spelled;
      used = x.used;
      above_first = x.above_first;
      parts = record {
        strings = (many, (here_words bytes 112 (front_of p i plans (data_at (counts_of i plans))).strings.offsets few_strings a.0).1);
        parameters = (both_long _ (written_by i p).protos (front_of p i plans (data_at (counts_of i plans))).lists.parameters leads, third_words bytes (valid.protos_at (written_by i p)) 0 _ (written_by i p).protos (front_of p i plans (data_at (counts_of i plans))).lists.parameters few_parameters leads (here_is bytes (valid.protos_at (written_by i p)) (valid.protos_at (written_by i p) + 12 * 0) (words protos) (omega arith) c));
        lists = subst (λ l. Both (λ y offset. LeadsTo l starts y.parameters offset) (written_by i p).protos (front_of p i plans (data_at (counts_of i plans))).lists.parameters) lists leads;
        classes = x.class_parts;
        interfaces = x.interfaces;
        sets = x.set_parts;
      };
      lists = record { offsets_are = refl; texts_are = ap (λ l. map kept.type_list_text l) (sym lists) ∙ sym (lists_same (type_lists p i plans)) };
      refs = x.refs;
      sets = x.sets;
      codes = x.codes;
      directories = x.directories;
      members = x.members;
      strings = record { offsets_are = refl; texts_are = strings_written p.strings i.order.strings.items orders.strings };
      lines = x.lines;
      marks = x.marks;
      values = x.values;
    }

pub written_is_valid : (p : Program) (bytes : List ℕ) (w : writer.IsWritten p bytes) (classes : List ClassPart) (sets : List SetPart) → IsSealed p.version bytes → length bytes < 2 ^ 32 → Rest bytes p w.interner w.plans (written_by w.interner p) classes sets → IsValidFile p bytes (written_by w.interner p)
written_is_valid p bytes w classes sets sealed few x =
    let file : List ℕ = file_for p w.interner w.plans in
    let fits : FitsPlans p w.interner w.plans = plans_fit p w.interner (flat_map (classes_at p) w.places) w.plans w.planned in
    let sealed_file : IsSealed p.version file = subst (λ b. IsSealed p.version b) w.file sealed in
    let few_file : length file < 2 ^ 32 = subst (λ (b : List ℕ). length b < 2 ^ 32) w.file few in
    let x_file : Rest file p w.interner w.plans (written_by w.interner p) classes sets = subst (λ b. Rest b p w.interner w.plans (written_by w.interner p) classes sets) w.file x in
    let valid_file : IsValidFor file (written_by w.interner p) = file_is_valid p w.interner w.plans (written_by w.interner p) (parts_with p w.interner w.plans classes sets) fits sealed_file few_file refl (rest_kinds p w.interner w.plans classes sets fits (orders_in p w.interner w.interned) few_file x_file) in
    record {
      valid = subst (λ b. IsValidFor b (written_by w.interner p)) (sym w.file) valid_file;
      signed = sealed.signature;
      written = record { interner = w.interner; used = w.interned; is = refl };
    }
