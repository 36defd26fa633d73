use Rattle.dex_pools.proofs.Finding.{same}
use Rattle.dex_pools.proofs.Fields.{finds_string}
use Rattle.dex_pools.proofs.TableReading.{finds_type, finds_type_list, finds_proto, finds_field, finds_method}
use Rattle.dex_pools.specs.Items.{type_list_at}
use Rattle.dex_pools.specs.Tables.{string_at, proto_at}
use Rattle.file_laws.proofs.file_laws.entries_law.Goals as goal

pub returns : goal.returns
returns c = record {
  strings = λ bytes strings i left. same (string_at bytes strings i left) (finds_string bytes strings i left) (λ y p. (p.0, p.1.enough, p.1.rest)) (λ y p. (p.0, record { enough = p.1; rest = p.2 }));
  types = λ bytes tables strings i. finds_type bytes tables strings i;
  lists = λ bytes at size left. same (type_list_at bytes at size left) (finds_type_list bytes at size left) (λ y p. (p.0, p.1.enough, p.1.rest)) (λ y p. (p.0, record { enough = p.1; rest = p.2 }));
  protos = λ bytes tables strings letters i left. same (proto_at bytes tables strings letters i left) (finds_proto bytes tables strings letters i left) (λ y p. (p.0, p.1.enough, p.1.rest)) (λ y p. (p.0, record { enough = p.1; rest = p.2 }));
  fields = λ bytes tables letters i. finds_field bytes tables letters i;
  methods = λ bytes tables i. finds_method bytes tables i;
}
