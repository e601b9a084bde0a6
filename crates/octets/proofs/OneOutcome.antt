-- Any two outcomes that the contract of a public call allows are equal.
use mathlib.Core.Path.{refl, sym, ◌∙◌}
use Rattle.octets.proofs.Outcomes.{OneAnswer, OneShown, OneOutcome}
use Rattle.octets.proofs.u16_at
use Rattle.octets.specs.contracts.u16_at as u16_at_contract
use Rattle.octets.proofs.u32_at
use Rattle.octets.specs.contracts.u32_at as u32_at_contract
use Rattle.octets.proofs.u64_at
use Rattle.octets.specs.contracts.u64_at as u64_at_contract
use Rattle.octets.proofs.Cursor.new as cursor_new
use Rattle.octets.specs.contracts.Cursor.new as cursor_new_contract
use Rattle.octets.proofs.Cursor.take_u16 as cursor_take_u16
use Rattle.octets.specs.contracts.Cursor.take_u16 as cursor_take_u16_contract
use Rattle.octets.proofs.Cursor.take_u32 as cursor_take_u32
use Rattle.octets.specs.contracts.Cursor.take_u32 as cursor_take_u32_contract
use Rattle.octets.proofs.Cursor.skip as cursor_skip
use Rattle.octets.specs.contracts.Cursor.skip as cursor_skip_contract
use Rattle.octets.proofs.zero_at
use Rattle.octets.specs.contracts.zero_at as zero_at_contract
use Rattle.octets.proofs.zero_from
use Rattle.octets.specs.contracts.zero_from as zero_from_contract
use Rattle.octets.proofs.has_zero
use Rattle.octets.specs.contracts.has_zero as has_zero_contract
use Rattle.octets.proofs.part
use Rattle.octets.specs.contracts.part as part_contract
use Rattle.octets.proofs.put_u16
use Rattle.octets.specs.contracts.put_u16 as put_u16_contract
use Rattle.octets.proofs.put_u32
use Rattle.octets.specs.contracts.put_u32 as put_u32_contract
use Rattle.octets.proofs.put_u64
use Rattle.octets.specs.contracts.put_u64 as put_u64_contract
use denote.RattleType.{RattleType}
use denote.Param.Laws.{Laws}
use mir.Syntax.{Dict}
use Rattle.octets.specs.declared.zeros.Character.{Ghosts}
use Rattle.octets.proofs.zeros.sixteen_at
use Rattle.octets.specs.contracts.zeros.sixteen_at as sixteen_at_contract
use Rattle.octets.specs.contracts.zeros.Byte.{the_row as byte}
use Rattle.octets.specs.contracts.zeros.ByteCharacter.TheImpl.{ghosts as byte_ghosts, dict as byte_dict}
use Rattle.octets.specs.contracts.zeros.Unit.{the_row as unit}
use Rattle.octets.specs.contracts.zeros.UnitCharacter.TheImpl.{ghosts as unit_ghosts, dict as unit_dict}
use Rattle.octets.proofs.zeros.Byte.TheLaws.{the_row_laws as byte_laws}
use Rattle.octets.proofs.zeros.Unit.TheLaws.{the_row_laws as unit_laws}
use Rattle.octets.proofs.zeros.first_zero
use Rattle.octets.specs.contracts.zeros.first_zero as first_zero_contract

pub u16_at_one_outcome : OneAnswer u16_at_contract.ended u16_at.Reads.Post
u16_at_one_outcome κs a r q s t p o = p ∙ sym o

pub u32_at_one_outcome : OneAnswer u32_at_contract.ended u32_at.Reads.Post
u32_at_one_outcome κs a r q s t p o = p ∙ sym o

pub u64_at_one_outcome : OneAnswer u64_at_contract.ended u64_at.Reads.Post
u64_at_one_outcome κs a r q s t p o = p ∙ sym o

pub cursor_new_one_outcome : OneAnswer cursor_new_contract.ended cursor_new.Reads.Post
cursor_new_one_outcome κs a r q s t p o = p ∙ sym o

pub cursor_take_u16_one_outcome : OneAnswer cursor_take_u16_contract.ended cursor_take_u16.Reads.Post
cursor_take_u16_one_outcome κs a r q s t p o = p ∙ sym o

pub cursor_take_u32_one_outcome : OneAnswer cursor_take_u32_contract.ended cursor_take_u32.Reads.Post
cursor_take_u32_one_outcome κs a r q s t p o = p ∙ sym o

pub cursor_skip_one_outcome : OneAnswer cursor_skip_contract.ended cursor_skip.Reads.Post
cursor_skip_one_outcome κs a r q s t p o = p ∙ sym o

pub zero_at_one_outcome : OneAnswer zero_at_contract.ended zero_at.Reads.Post
zero_at_one_outcome κs a r q s t p o = p.0 ∙ sym o.0

pub zero_from_one_outcome : OneAnswer zero_from_contract.ended zero_from.Reads.Post
zero_from_one_outcome κs a r q s t p o = p.0 ∙ sym o.0

pub has_zero_one_outcome : OneAnswer has_zero_contract.ended has_zero.Reads.Post
has_zero_one_outcome κs a r q s t p o = p ∙ sym o

pub part_one_outcome : OneShown part_contract.ended (λ κs r. r.now) part.Reads.Post
part_one_outcome κs a r q s t p o = p ∙ sym o

pub put_u16_one_outcome : OneOutcome put_u16_contract.ended (λ κs s. s.0.now) put_u16.Reads.Post
put_u16_one_outcome κs a r q s t p o = (refl, p ∙ sym o)

pub put_u32_one_outcome : OneOutcome put_u32_contract.ended (λ κs s. s.0.now) put_u32.Reads.Post
put_u32_one_outcome κs a r q s t p o = (refl, p ∙ sym o)

pub put_u64_one_outcome : OneOutcome put_u64_contract.ended (λ κs s. s.0.now) put_u64.Reads.Post
put_u64_one_outcome κs a r q s t p o = (refl, p ∙ sym o)

-- of each kind of character C
module _ (C : RattleType) (L : Laws C) (G : Ghosts C.Denot) (D : Dict) where
  pub sixteen_at_one_outcome : OneAnswer (sixteen_at_contract.ended C G D) (sixteen_at.Reads.Post C L G D)
  sixteen_at_one_outcome κs a r q s t p o = p ∙ sym o

  pub first_zero_one_outcome : OneAnswer (first_zero_contract.ended C G D) (first_zero.Reads.Post C L G D)
  first_zero_one_outcome κs a r q s t p o = p ∙ sym o

-- of bytes, and of units
pub skip_bytes_one_outcome : OneAnswer (sixteen_at_contract.ended byte byte_ghosts byte_dict) (sixteen_at.Reads.Post byte byte_laws byte_ghosts byte_dict)
skip_bytes_one_outcome = sixteen_at_one_outcome byte byte_laws byte_ghosts byte_dict

pub skip_units_one_outcome : OneAnswer (sixteen_at_contract.ended unit unit_ghosts unit_dict) (sixteen_at.Reads.Post unit unit_laws unit_ghosts unit_dict)
skip_units_one_outcome = sixteen_at_one_outcome unit unit_laws unit_ghosts unit_dict
