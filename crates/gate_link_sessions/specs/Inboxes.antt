-- What an inbox has taken from its ring, and what it has seen there.
use Rattle.std.specs.Prelude.{◌≡◌, ℕ, ◌<◌, List, ◌++◌, length, slice_index_or}
use Rattle.rtrb.specs.Ring.{received, known_items, IsPair, SameConsumer}
use Rattle.spread_rules.specs.declared.event.Event.{Event}
use Rattle.spread_rules.specs.declared.event.Entry.{Entry}
use Rattle.spread_rules.specs.Journal.{restricted}
use Rattle.gate_link_sessions.specs.Rows.{entry_events, row}
use Rattle.gate_link_sessions.specs.Gateways.{events_sent, session_state, bytes_held, SameGateway}
use Rattle.gate_link_sessions.specs.declared.gateway.Gateway.{Gateway}
use Rattle.gate_link_sessions.specs.declared.inbox.Inbox.{Inbox}

-- the events that it has received, by its ring end's own list
abbrev pub taken : {A : Type 0} → Inbox A → List Event
taken l = entry_events (received l.consumer)

-- the events that it has seen in the ring
abbrev pub known : {A : Type 0} → Inbox A → List Event
known l = entry_events (known_items l.consumer)

-- all of them
abbrev pub total : {A : Type 0} → Inbox A → List Event
total l = taken l ++ known l

abbrev pub SameInbox : {A : Type 0} → Inbox A → Inbox A → Type 0
SameInbox a b = SameConsumer a.consumer b.consumer

-- the two ends of one ring
abbrev pub IsInboxOf : {A : Type 0} → Inbox A → Gateway A → Type 0
IsInboxOf l g = IsPair g.producer l.consumer

-- of each session the journal has what its ring end has received, and it has nothing of any other session
abbrev pub Restricts : {A : Type 0} → List Entry → List (Inbox A) → Type 0
Restricts journal inboxes = (s : ℕ) → restricted s journal ≡ row taken inboxes s

-- an inbox that looked beside its gateway
abbrev pub LookedAt : {A : Type 0} → Inbox A → Gateway A → Inbox A → Gateway A → Type 0
LookedAt l g m h =
    SameInbox l m × (taken m ≡ taken l) × (total m ≡ events_sent h)
    × SameGateway g h × (events_sent h ≡ events_sent g) × (session_state h ≡ session_state g)
    × (bytes_held h ≡ bytes_held g)

-- the two ends of one ring, one by one
abbrev pub ArePairs : {A : Type 0} → List (Inbox A) → List (Gateway A) → Type 0
ArePairs inboxes gateways =
    (length gateways ≡ length inboxes)
    × ((s : ℕ) (d : Inbox _) (g : Gateway _) → s < length inboxes
    → IsInboxOf (slice_index_or inboxes s d) (slice_index_or gateways s g))

-- every inbox looked beside its gateway
abbrev pub AllLooked : {A : Type 0} → List (Inbox A) → List (Gateway A) → List (Inbox A)
    → List (Gateway A) → Type 0
AllLooked inboxes gateways inboxes' gateways' =
    (length inboxes' ≡ length inboxes) × (length gateways' ≡ length gateways)
    × ((s : ℕ) (d : Inbox _) (g : Gateway _) → s < length inboxes
    → LookedAt (slice_index_or inboxes s d) (slice_index_or gateways s g)
    (slice_index_or inboxes' s d) (slice_index_or gateways' s g))
