-- A `&` to a `Leaked` holds what the `Leaked` does. Assumes `Logic`.
use denote.RattleType.{RattleType}
use denote.Param.Laws.{Laws}
use denote.Param.Shared.{copy_shared}
use denote.Struct.Field.{RawPtr-field}
use denote.Struct.Laws.{RawPtr-copy}
use denote.Struct.Lending.{of_Lends}
use Rattle.xc_data.specs.contracts.lasting.Leaked as C
use Rattle.xc_data.proofs.lasting.Leaked.TheLaw.Statement.{statement}
use Rattle.xc_data.proofs.Forever.{forever_laws, Lends-forever}

pub shares : (T : RattleType) (L : Laws T) → statement T L
shares T L = of_Lends (C.struct T) (C.the_codes T.Denot T.coded) (C.the_heap T) (C.the_lent T)
    (λ d p. forever_laws T L d.at d.value) (copy_shared RawPtr-field RawPtr-copy, tt) (λ M 𝓤 𝓛 d p. Lends-forever T L d.at d.value 𝓛 (C.the_row T).lives)
