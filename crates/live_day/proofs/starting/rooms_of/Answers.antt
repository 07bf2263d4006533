use Rattle.live_day.proofs.starting.rooms_of.Goals as goal

pub returns-clause-workers : goal.returns-clause-workers
returns-clause-workers g c =
    let handles = c.in_ok-with_capacity.ensures in
    let room = c.in_ok-with_capacity-2.ensures in
    ((handles.len, handles.capacity), (room.len, room.capacity))

pub returns-clause-writers : goal.returns-clause-writers
returns-clause-writers g c =
    let handles = c.in_ok-with_capacity-3.ensures in
    let room = c.in_ok-with_capacity-4.ensures in
    ((handles.len, handles.capacity), (room.len, room.capacity))
