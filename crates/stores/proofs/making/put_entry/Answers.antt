-- By the row's kind; a storage's size counts the values that follow it.
use mathlib.Core.Path.{ap}
use native.Mathlib.Omega.{arith}
use lib.ListN.{length}
use Rattle.stores.proofs.MakingLaws.{storage_values, storage_room, storage_identifier, storage_put, number_small, number_room, number_put, both_inside, name_room, name_put}
use Rattle.stores.proofs.making.put_entry.Goals as goal

pub values_size-n-requires : goal.values_size-n-requires
values_size-n-requires c = storage_values c.requires c.in-0.is

pub put_u32-requires : goal.put_u32-requires
put_u32-requires c = record { room = omega (arith, (storage_room c.requires c.in-0.is).room) }

pub put_storage-requires : goal.put_storage-requires
put_storage-requires c =
    let p = c.put_u32.ensures in
    let n = storage_values c.requires c.in-0.is in
    (record { room = omega (arith, (storage_room c.requires c.in-0.is).room, p.next, p.kept) }, (rw c.body.ensures.is (storage_identifier c.requires c.in-0.is), omega (arith, c.values_size-n.ensures)))

pub returns-in-0 : goal.returns-in-0
returns-in-0 c = storage_put c.requires c.in-0.is c.values_size-n.ensures c.put_u32.ensures (rw c.body.ensures.is at c.put_storage.ensures)

pub overflow_cast-r : goal.overflow_cast-r
overflow_cast-r c = omega (arith, number_small c.requires c.in-1.is)

pub put_value-requires : goal.put_value-requires
put_value-requires c =
    let (room, few) = number_room c.requires c.in-1.is in
    (record { room = omega (arith, room) }, rw c.body-raw.ensures.is few)

pub put_bytes-requires : goal.put_bytes-requires
put_bytes-requires c =
    let p = c.put_value.ensures in
    record { room = omega (arith, (number_room c.requires c.in-1.is).0, ap length c.body-raw.ensures.is, p.next, p.kept) }

pub returns-in-1 : goal.returns-in-1
returns-in-1 c = number_put c.requires c.in-1.is (ap length c.body-raw.ensures.is) c.put_value.ensures (rw c.body-raw.ensures.is at c.put_bytes.ensures)

pub body-name-requires : goal.body-name-requires
body-name-requires c = (both_inside c.requires (λ e. omega arith) (λ e. omega arith)).0

pub body-raw-requires-in_default : goal.body-raw-requires-in_default
body-raw-requires-in_default c = (both_inside c.requires (λ e. omega arith) (λ e. omega arith)).1

pub overflow_cast-name : goal.overflow_cast-name
overflow_cast-name c = omega (arith, (name_room c.requires (λ e. omega arith) (λ e. omega arith)).1, ap length c.body-name.ensures.is)

pub put_value-requires-in_default : goal.put_value-requires-in_default
put_value-requires-in_default c =
    let (room, few) = name_room c.requires (λ e. omega arith) (λ e. omega arith) in
    (record { room = omega (arith, room) }, rw (c.body-name.ensures.is, c.body-raw-in_default.ensures.is) few)

pub put_bytes-requires-in_default : goal.put_bytes-requires-in_default
put_bytes-requires-in_default c =
    let room = (name_room c.requires (λ e. omega arith) (λ e. omega arith)).0 in
    let p = c.put_value-in_default.ensures in
    record { room = omega (arith, room, ap length c.body-name.ensures.is, p.next, p.kept) }

pub put_bytes-requires-in_default-2 : goal.put_bytes-requires-in_default-2
put_bytes-requires-in_default-2 c =
    let room = (name_room c.requires (λ e. omega arith) (λ e. omega arith)).0 in
    let p = c.put_value-in_default.ensures in
    let q = c.put_bytes-in_default.ensures in
    record { room = omega (arith, room, ap length c.body-name.ensures.is, ap length c.body-raw-in_default.ensures.is, p.next, p.kept, q.next, q.kept) }

pub returns-in_default : goal.returns-in_default
returns-in_default c =
    let name = c.body-name.ensures.is in
    let raw = c.body-raw-in_default.ensures.is in
    name_put c.requires (λ e. omega arith) (λ e. omega arith) (ap length name) (ap length raw) c.put_value-in_default.ensures (rw name at c.put_bytes-in_default.ensures) (rw raw at c.put_bytes-in_default-2.ensures)
