-- The tables of a file are spelled where their words, their strings and their type lists stand.
use Rattle.std.proofs.Common.{◌≡◌, ◌≤◌, ◌<◌, ◌+◌, ◌*◌, ◌^◌, ℕ, zero, suc, List, [], ◌∷◌, ◌++◌, length, refl, sym, ap, subst, ◌∙◌, length-append, arith, map}
use Rattle.std.specs.Prelude.{slice_get, Some}
use Rattle.std.specs.Int.{w16, to_le_bytes}
use Rattle.std.specs.List.{AllByRecursion, flat_map}
use Rattle.lemmas.proofs.Options.{some_same}
use Rattle.dex_base.specs.Decides.{Each}
use Rattle.dex_pools.specs.declared.header.Extents.{Extents}
use Rattle.dex_pools.specs.Spelled.{IsString, IsType, IsTypeList, AreParameters, AreExtents, IsProto, IsField, IsMethod, SpellsPools}
use Rattle.dex_pools.specs.Tables.{letters_of}
use Rattle.program_model.specs.declared.pools.Proto.{Proto}
use Rattle.program_model.specs.declared.program.Program.{Program}
use Rattle.dex_write.specs.Numbers.{words}
use Rattle.dex_write.specs.Tables.{pair}
use Rattle.dex_defs.specs.Spells.{pools_of}
use Rattle.dex_defs.specs.Here.{Here}
use Rattle.dex_defs.specs.Texts.{string_text, type_list_text}
use Rattle.dex_defs.specs.Texts as defs
use Rattle.dex_defs.specs.Valid as valid
use Rattle.write_laws.specs.Fits.{FitsList, FitsProto, TablesFit}
use Rattle.dex_defs.specs.Arranged.{Lie, IsAt, Nothing, Something, Both, LeadsTo, ToNone, ToOne}
use Rattle.write_laws.proofs.Here.{here_left, here_right, here_is, here_same}
use Rattle.write_laws.proofs.Numbers.{Few, here_words, first_word, other_words, words_append, words_length}
use Rattle.write_laws.proofs.Strings.{strings_spelled}
use Rattle.write_laws.proofs.Tables.{types_spelled, fields_spelled, methods_spelled, list_spelled}
use Rattle.write_laws.proofs.Final.{extents_of, place_is}

-- ---- the list that an offset leads to

-- the item of a list stands where it begins
pub record StandsAt (bytes : List ℕ) (offset : ℕ) (list : List ℕ) : Type 0 where
  pub some : 0 < offset
  pub here : Here bytes offset (type_list_text list)

one_stands : (bytes : List ℕ) (from offset : ℕ) (list : List ℕ) (stop : ℕ) → IsAt bytes 4 from offset (type_list_text list) stop → StandsAt bytes offset list
one_stands bytes from offset list stop (Nothing a b c) = absurd (omega (arith, ap length b, length-append (defs.words (length list ∷ [])) (flat_map (to_le_bytes w16) list)))
one_stands bytes from offset list stop (Something a b c d e f) = record { some = a; here = e }

pub lies_at : (bytes : List ℕ) (from : ℕ) (starts : List ℕ) (lists : List (List ℕ)) (to k offset : ℕ) (list : List ℕ) → Lie bytes 4 from starts (map type_list_text lists) to → slice_get lists k ≡ Some list → slice_get starts k ≡ Some offset → StandsAt bytes offset list
lies_at bytes from [] [] to k offset list h e f = absurd cc
lies_at bytes from [] (x ∷ xs) to k offset list h e f = absurd h
lies_at bytes from (o ∷ os) [] to k offset list h e f = absurd h
lies_at bytes from (o ∷ os) (x ∷ xs) to zero offset list h e f =
    let a : x ≡ list = some_same x list e in
    let b : o ≡ offset = some_same o offset f in
    subst (λ l. StandsAt bytes offset l) a (subst (λ n. StandsAt bytes n x) b (one_stands bytes from o x h.0 h.1))
lies_at bytes from (o ∷ os) (x ∷ xs) to (suc k) offset list h e f = lies_at bytes h.0 os xs to k offset list h.2 e f

parameters_are : (bytes : List ℕ) (size offset : ℕ) (list : List ℕ) → 0 < offset → IsTypeList bytes offset size list → AreParameters bytes size offset list
parameters_are bytes size zero list lt h = absurd (omega (arith, lt))
parameters_are bytes size (suc k) list lt h = h

pub leads_spelled : (bytes : List ℕ) (size from : ℕ) (starts : List ℕ) (lists : List (List ℕ)) (to offset : ℕ) (list : List ℕ) → size ≤ 65536 → FitsList size list → Lie bytes 4 from starts (map type_list_text lists) to → LeadsTo lists starts list offset → AreParameters bytes size offset list
leads_spelled bytes size from starts lists to offset list few fit h (ToNone a b) = subst (λ n. AreParameters bytes size n list) (sym b) a
leads_spelled bytes size from starts lists to offset list few fit h (ToOne k lt e f) =
    let s : StandsAt bytes offset list = lies_at bytes from starts lists to k offset list h e f in
    parameters_are bytes size offset list s.some (list_spelled bytes offset size list few fit.short fit.fit s.here)

-- ---- protos

-- the words of protos whose parameters stand there
abbrev pub proto_rows : List Proto → List ℕ → List ℕ
proto_rows [] offsets = []
proto_rows (q ∷ qs) [] = []
proto_rows (q ∷ qs) (o ∷ os) = q.shorty ∷ q.result ∷ o ∷ proto_rows qs os

pub protos_spelled : (bytes : List ℕ) (t : Extents) (strings : List (List ℕ)) (letters : List ℕ) (i from : ℕ) (starts : List ℕ) (lists : List (List ℕ)) (to : ℕ) (protos : List Proto) (offsets : List ℕ)
    → t.strings.size ≡ length strings → length strings < 2 ^ 32 → t.types.size ≤ 65536 → Few offsets → AllByRecursion (FitsProto strings t.types.size letters) protos → Lie bytes 4 from starts (map type_list_text lists) to → Both (λ q offset. LeadsTo lists starts q.parameters offset) protos offsets
    → Here bytes (t.protos.offset + 12 * i) (words (proto_rows protos offsets)) → Each (IsProto bytes t strings letters) i protos
protos_spelled bytes t strings letters i from starts lists to [] offsets size many few fine fit lie leads h = tt
protos_spelled bytes t strings letters i from starts lists to (q ∷ qs) [] size many few fine fit lie leads h = absurd leads
protos_spelled bytes t strings letters i from starts lists to (q ∷ qs) (o ∷ os) size many few fine fit lie leads h =
    let at : ℕ = t.protos.offset + 12 * i in
    let x : FitsProto strings t.types.size letters q = fit.0 in
    let rest : List ℕ = proto_rows qs os in
    let h1 : Here bytes (at + 4) (words (q.result ∷ o ∷ rest)) = other_words bytes at q.shorty (q.result ∷ o ∷ rest) h in
    let h2 : Here bytes (at + 8) (words (o ∷ rest)) = here_is bytes (at + 4 + 4) (at + 8) _ (omega arith) (other_words bytes (at + 4) q.result (o ∷ rest) h1) in
    let h3 : Here bytes (t.protos.offset + 12 * suc i) (words rest) = here_is bytes (at + 8 + 4) (t.protos.offset + 12 * suc i) _ (omega arith) (other_words bytes (at + 8) o rest h2) in (
      record {
        shorty = record { is = first_word bytes at q.shorty (q.result ∷ o ∷ rest) (omega (arith, many, x.shorty)) h; below = omega (arith, size, x.shorty) };
        outcome = record { is = first_word bytes (at + 4) q.result (o ∷ rest) (omega (arith, few, x.result)) h1; below = x.result };
        offset = o;
        is_offset = first_word bytes (at + 8) o rest fine.0 h2;
        parameters = leads_spelled bytes t.types.size from starts lists to o q.parameters few x.parameters lie leads.0;
        spelled = x.spelled;
      },
      protos_spelled bytes t strings letters (suc i) from starts lists to qs os size many few fine.1 fit.1 lie leads.1 h3,
    )

-- ---- the five tables

-- what stands there of them
pub record TablesStand (bytes : List ℕ) (q : Program) (strings parameters classes : List ℕ) : Type 0 where
  pub extents : AreExtents bytes (extents_of q)
  pub few_strings : Few strings
  pub few_parameters : Few parameters
  pub tables : Here bytes 112 (words (strings ++ (q.types ++ (proto_rows q.protos parameters ++ (flat_map (λ f. pair f.class f.kind ∷ f.name ∷ []) q.fields ++ (flat_map (λ m. pair m.class m.proto ∷ m.name ∷ []) q.methods ++ classes))))))
  pub strings_from : ℕ
  pub strings_to : ℕ
  pub strings_lie : Lie bytes 1 strings_from strings (map string_text q.strings) strings_to
  pub lists_from : ℕ
  pub starts : List ℕ
  pub lists : List (List ℕ)
  pub lists_to : ℕ
  pub lists_lie : Lie bytes 4 lists_from starts (map type_list_text lists) lists_to
  pub leads : Both (λ x offset. LeadsTo lists starts x.parameters offset) q.protos parameters

each_some : {X : Type 0} (P : ℕ → X → Type 0) (i : ℕ) (xs : List X) → (0 < length xs → Each P i xs) → Each P i xs
each_some P i [] h = tt
each_some P i (x ∷ xs) h = h (omega arith)

lie_lengths : (bytes : List ℕ) (align from : ℕ) (offsets : List ℕ) (texts : List (List ℕ)) (to : ℕ) → Lie bytes align from offsets texts to → length offsets ≡ length texts
lie_lengths bytes align from [] [] to h = refl
lie_lengths bytes align from [] (t ∷ ts) to h = absurd h
lie_lengths bytes align from (o ∷ os) [] to h = absurd h
lie_lengths bytes align from (o ∷ os) (t ∷ ts) to h = ap suc (lie_lengths bytes align h.0 os ts to h.2)

pub rows_length : {X : Type 0} (f : X → List ℕ) → ((x : X) → length (f x) ≡ 2) → (xs : List X) → length (flat_map f xs) ≡ 2 * length xs
rows_length f g [] = refl
rows_length f g (x ∷ xs) = length-append (f x) (flat_map f xs) ∙ omega (arith, g x, rows_length f g xs)

pub protos_long : (P : Proto → ℕ → Type 0) (protos : List Proto) (offsets : List ℕ) → Both P protos offsets → length (proto_rows protos offsets) ≡ 3 * length protos
protos_long P [] [] b = refl
protos_long P [] (o ∷ os) b = absurd b
protos_long P (q ∷ qs) [] b = absurd b
protos_long P (q ∷ qs) (o ∷ os) b = omega (arith, protos_long P qs os b.1)

map_length : (texts : List (List ℕ)) → length (map string_text texts) ≡ length texts
map_length [] = refl
map_length (t ∷ ts) = ap suc (map_length ts)

pub words_at : (bytes : List ℕ) (at next : ℕ) (ms ns : List ℕ) → at + 4 * length ms ≡ next → Here bytes at (words (ms ++ ns)) → Here bytes at (words ms) × Here bytes next (words ns)
words_at bytes at next ms ns e h =
    let both : Here bytes at (words ms ++ words ns) = here_same bytes at _ _ (words_append ms ns) h in
    (here_left bytes at (words ms) (words ns) both, here_is bytes (at + length (words ms)) next (words ns) (omega (arith, e, words_length ms)) (here_right bytes at (words ms) (words ns) both))

pub pools_spelled : (bytes : List ℕ) (q : Program) (strings parameters classes : List ℕ) → TablesFit q → TablesStand bytes q strings parameters classes → SpellsPools bytes 16777216 (pools_of q)
pools_spelled bytes q strings parameters classes fit s =
    let t : Extents = extents_of q in
    let letters : List ℕ = letters_of q.strings q.types in
    let protos : List ℕ = proto_rows q.protos parameters in
    let fields : List ℕ = flat_map (λ f. pair f.class f.kind ∷ f.name ∷ []) q.fields in
    let methods : List ℕ = flat_map (λ m. pair m.class m.proto ∷ m.name ∷ []) q.methods in
    let many : length strings ≡ length q.strings = lie_lengths bytes 1 s.strings_from strings (map string_text q.strings) s.strings_to s.strings_lie ∙ map_length q.strings in
    let p3 : length protos ≡ 3 * length q.protos = protos_long _ q.protos parameters s.leads in
    let p2 : length fields ≡ 2 * length q.fields = rows_length (λ f. pair f.class f.kind ∷ f.name ∷ []) (λ f. refl) q.fields in
    let a = words_at bytes 112 (valid.types_at q) strings (q.types ++ (protos ++ (fields ++ (methods ++ classes)))) (omega (arith, many)) s.tables in
    let b = words_at bytes (valid.types_at q) (valid.protos_at q) q.types (protos ++ (fields ++ (methods ++ classes))) (omega arith) a.1 in
    let c = words_at bytes (valid.protos_at q) (valid.fields_at q) protos (fields ++ (methods ++ classes)) (omega (arith, p3)) b.1 in
    let d = words_at bytes (valid.fields_at q) (valid.methods_at q) fields (methods ++ classes) (omega (arith, p2)) c.1 in
    let both : Here bytes (valid.methods_at q) (words methods ++ words classes) = here_same bytes (valid.methods_at q) _ _ (words_append methods classes) d.1 in
    let e : Here bytes (valid.methods_at q) (words methods) = here_left bytes (valid.methods_at q) (words methods) (words classes) both in
    record {
      tables = t;
      stand = s.extents;
      strings = (refl, each_some (IsString bytes t.strings) 0 q.strings (λ lt. (strings_spelled bytes t.strings s.strings_from strings q.strings s.strings_to refl fit.strings (rw (place_is (length q.strings) 112 lt) (here_words bytes 112 strings s.few_strings a.0).1) s.strings_lie).1));
      strings_ascend = fit.strings_ascend;
      units = fit.units;
      types = (refl, each_some (IsType bytes t q.strings) 0 q.types (λ lt. types_spelled bytes t q.strings 0 q.types refl fit.types (here_is bytes (valid.types_at q) (t.types.offset + 4 * 0) (words q.types) (omega (arith, place_is (length q.types) (valid.types_at q) lt)) b.0)));
      types_ascend = fit.types_ascend;
      protos = (refl, each_some (IsProto bytes t q.strings letters) 0 q.protos (λ lt. protos_spelled bytes t q.strings letters 0 s.lists_from s.starts s.lists s.lists_to q.protos parameters refl fit.few_strings fit.few_types s.few_parameters fit.protos s.lists_lie s.leads (here_is bytes (valid.protos_at q) (t.protos.offset + 12 * 0) (words protos) (omega (arith, place_is (length q.protos) (valid.protos_at q) lt)) c.0)));
      protos_ascend = fit.protos_ascend;
      items = fit.items;
      fields = (refl, each_some (IsField bytes t letters) 0 q.fields (λ lt. fields_spelled bytes t letters 0 q.fields fit.few_types fit.few_strings fit.fields (here_is bytes (valid.fields_at q) (t.fields.offset + 8 * 0) (words fields) (omega (arith, place_is (length q.fields) (valid.fields_at q) lt)) d.0)));
      fields_ascend = fit.fields_ascend;
      methods = (refl, each_some (IsMethod bytes t) 0 q.methods (λ lt. methods_spelled bytes t 0 q.methods fit.few_types fit.few_protos fit.few_strings fit.methods (here_is bytes (valid.methods_at q) (t.methods.offset + 8 * 0) (words methods) (omega (arith, place_is (length q.methods) (valid.methods_at q) lt)) e)));
      methods_ascend = fit.methods_ascend;
    }
