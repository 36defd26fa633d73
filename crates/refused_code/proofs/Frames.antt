-- A frame whose arguments are others than its method's stands so in the file.
use Rattle.std.proofs.Common.{◌≡◌, ◌<◌, inl, inr, ℕ, zero, suc, ◌+◌, ◌*◌, false, leb, eqb, List, [], ◌∷◌, length, map, Option, Some, refl, sym, ap, subst, ◌∙◌, arith, true≢false}
use Rattle.std.specs.Prelude.{◌&&◌, slice_get, sum_by}
use Rattle.std.specs.List.{AllByRecursion, fold}
use Rattle.std.specs.Option.{option_and_then}
use Rattle.std.proofs.lemmas.Bool.{leb-false, eq-eqb}
use Rattle.lemmas.proofs.Lists.{got_short, get_there}
use Rattle.dex_base.specs.Decides.{Each}
use Rattle.program_model.specs.Texts.{type_text, text_or_none, letter_of}
use Rattle.program_model.specs.MemberRules.{words_of, receiver_words, proto_of, takes_words}
use Rattle.program_model.specs.declared.pools.MethodName.{MethodName}
use Rattle.program_model.specs.declared.pools.Proto.{Proto}
use Rattle.program_model.specs.declared.program.Program.{Program}
use Rattle.program_model.specs.declared.program.Version.{Version}
use Rattle.dex_pools.specs.declared.pools.Pools.{Pools}
use Rattle.dex_pools.specs.Spelled.{IsHalfIndex, AreParameters, IsProto, IsMethod, SpellsPools}
use Rattle.dex_pools.specs.Tables.{letters_of}
use Rattle.dex_defs.specs.CodeItems.{Frame}
use Rattle.dex_defs.specs.Faults.{HasTypeText, HaveTexts}
use Rattle.dex_defs.specs.ClassFaults.{HasFault, HasParameters, BadCode, FewRegisters, OtherWords}
use Rattle.dex_defs.specs.ClassFaults as faults
use Rattle.dex_defs.specs.Parts as parts
use Rattle.dex_defs.specs.Places.{HasFrame}
use Rattle.dex_read.specs.declared.class_data.Listed.{Listed}
use Rattle.dex_read.specs.declared.code.CodeItem.{CodeItem}
use Rattle.dex_read.specs.declared.fault.DexFault.TheVariants as dex
use Rattle.dex_read.specs.Code.{frame_at}
use Rattle.dex_read.specs.File.{tables_with}
use Rattle.file_laws.specs.ClassData.{entry_of}
use Rattle.refused_law.specs.Just.{IsJust}
use Rattle.refused_law.proofs.Defs.{and_none}
use Rattle.refused_law.proofs.Failing.{Fails, sound, unless, each_at}
use Rattle.refused_law.proofs.Ids.{type_there, type_has}
use Rattle.refused_law.proofs.Tables.{entry_at}

module _ (bytes : List ℕ) (version : Version) (pools : Pools) (s : SpellsPools bytes 16777216 pools) where
  abbrev q : Program
  q = tables_with version pools

  -- ---- parameters

  type_at : (k : ℕ) → k < s.tables.types.size → (begin : ℕ) × HasTypeText bytes k (type_text q k) begin
  unfolding type_text
  type_at k inside =
      let has = type_has bytes s.tables s.stand pools.strings s.strings pools.types s.types k inside in
      (has.0, subst (λ o. HasTypeText bytes k (text_or_none q o) has.0) (sym (type_there bytes s.tables s.stand pools.strings s.strings pools.types s.types k inside)) has.1)

  abbrev AllTypes : List ℕ → Type 0
  AllTypes kinds = AllByRecursion (λ k. k < s.tables.types.size) kinds

  texts_have : (kinds : List ℕ) → AllTypes kinds → HaveTexts bytes kinds (map (type_text q) kinds)
  texts_have [] h = tt
  texts_have (k ∷ ks) h = (type_at k h.0, texts_have ks h.1)

  all_types : (base from : ℕ) (kinds : List ℕ) → Each (λ i n. IsHalfIndex bytes (base + 2 * i) s.tables.types.size n) from kinds → AllTypes kinds
  all_types base from [] h = tt
  all_types base from (k ∷ ks) h = (h.0.below, all_types base (suc from) ks h.1)

  parameters_all : (offset : ℕ) (kinds : List ℕ) → AreParameters bytes s.tables.types.size offset kinds → AllTypes kinds
  parameters_all zero kinds h = subst AllTypes (sym h) tt
  parameters_all (suc k) kinds h = all_types (suc k + 4) 0 kinds h.entries.1

  words_from : (kinds : List ℕ) (a : ℕ) → fold (λ (n : ℕ) (k : ℕ). n + words_of q k) a kinds ≡ fold (λ (n : ℕ) (text : List ℕ). n + faults.words_of text) a (map (type_text q) kinds)
  unfolding letter_of
  words_from [] a = refl
  words_from (k ∷ ks) a = words_from ks (a + words_of q k)

  words_same : (kinds : List ℕ) → sum_by (words_of q) kinds ≡ sum_by faults.words_of (map (type_text q) kinds)
  words_same kinds = words_from kinds 0

  -- ---- of a method

  module _ (number : ℕ) (m : MethodName) (there : slice_get pools.methods number ≡ Some m) where
    is_method : IsMethod bytes s.tables number m
    is_method = each_at (IsMethod bytes s.tables) pools.methods number m s.methods.1 there

    module _ (proto : Proto) (has : slice_get pools.protos m.proto ≡ Some proto) where
      is_proto : IsProto bytes s.tables pools.strings (letters_of pools.strings pools.types) m.proto proto
      is_proto = each_at (IsProto bytes s.tables pools.strings (letters_of pools.strings pools.types)) pools.protos m.proto proto s.protos.1 has

      parameters : HasParameters bytes number (map (type_text q) proto.parameters)
      parameters = let r = type_at proto.result is_proto.outcome.below in record {
        at = s.tables.methods.offset + 8 * number;
        id = entry_at bytes 88 8 s.tables.methods s.stand.methods number (let short = got_short pools.methods number m there in omega (arith, short, s.methods.0));
        proto = m.proto;
        is_proto = is_method.proto.is;
        entry = s.tables.protos.offset + 12 * m.proto;
        stands = entry_at bytes 72 12 s.tables.protos s.stand.protos m.proto is_method.proto.below;
        result = type_text q proto.result;
        has = record {
          kind = proto.result;
          begin = r.0;
          is_kind = is_proto.outcome.is;
          is_result = r.1;
          offset = is_proto.offset;
          is_offset = is_proto.is_offset;
          size = s.tables.types.size;
          is_size = s.stand.types.size;
          kinds = proto.parameters;
          are_kinds = is_proto.parameters;
          texts = texts_have proto.parameters (parameters_all is_proto.offset proto.parameters is_proto.parameters);
        };
      }

  -- ---- its frame

  module _ (class : ℕ) (e : Listed) (item : CodeItem) (f : Frame) (has : HasFrame bytes class (entry_of e) e.code f) (registers : item.registers ≡ f.registers) (ins : item.ins ≡ f.ins) where
    few : leb item.ins item.registers ≡ false → HasFault bytes (parts.FrameSize e.number)
    few untrue = BadCode (FewRegisters class e.code (entry_of e) f has (let less = leb-false item.ins item.registers untrue in omega (arith, less, registers, ins)) refl)

    module _ (m : MethodName) (there : slice_get pools.methods e.number ≡ Some m) (proto : Proto) (proto_there : slice_get pools.protos m.proto ≡ Some proto) where
      known : proto_of q e.number ≡ Some proto
      known = ap (λ (o : Option MethodName). option_and_then (λ m. slice_get pools.protos m.proto) o) there ∙ proto_there

      other : takes_words q e.flags (proto_of q e.number) item.ins ≡ false → HasFault bytes (parts.FrameSize e.number)
      other untrue =
          let unlike : eqb item.ins (receiver_words e.flags + sum_by (words_of q) proto.parameters) ≡ false = sym (ap (λ (o : Option Proto). takes_words q e.flags o item.ins) known) ∙ untrue in
          BadCode (OtherWords class e.code (entry_of e) f (map (type_text q) proto.parameters) has (parameters e.number m there proto proto_there)
          (λ same. true≢false (sym (eq-eqb item.ins (receiver_words e.flags + sum_by (words_of q) proto.parameters)
          (ins ∙ same ∙ ap (λ (n : ℕ). receiver_words e.flags + n) (sym (words_same proto.parameters)))) ∙ unlike)) refl)

      wrong : (takes_words q e.flags (proto_of q e.number) item.ins && leb item.ins item.registers) ≡ false → HasFault bytes (parts.FrameSize e.number)
      wrong untrue = elim (and_none (takes_words q e.flags (proto_of q e.number) item.ins) (leb item.ins item.registers) untrue) [ inl h ↦ other h | inr h ↦ few h ]

    pub fails_frame_at : e.number < length pools.methods → Fails (IsJust bytes) (frame_at q e item)
    unfolding frame_at
    fails_frame_at below =
        let m = get_there pools.methods e.number below in
        let in_protos : m.0.proto < length pools.protos = (let less = (is_method e.number m.0 m.1).proto.below in omega (arith, less, s.protos.0)) in
        let proto = get_there pools.protos m.0.proto in_protos in
        unless (dex.FrameSize e.number) (wrong m.0 m.1 proto.0 proto.1) (λ _. sound tt)
