-- What a session has left to read.
use Rattle.std.specs.Prelude.{◌≡◌, ℕ, Bool, IsTrue, List, [], ◌∷◌, ◌++◌, drop}
use Rattle.ac_types.specs.Types.{Bytes}
use Rattle.ac_outside.specs.Frames.{Whole, Bad, AtEnd, next_frame}
use Rattle.ac_run.specs.declared.inbox.Inbox.{Inbox}
use Rattle.ac_run.specs.declared.inbox.Inbox.TheVariants.{Open, Broken, Closed}
use Rattle.ac_run.specs.declared.inbox.Incoming.{Incoming}
use Rattle.ac_run.specs.declared.inbox.Incoming.TheVariants as incoming

-- this may be what comes, where the world has this left and tells it
abbrev pub MayCome : Inbox → Bool → Bytes → Bytes → Type 0
MayCome Open told left rest = IsTrue told → left ≡ rest
MayCome Broken told left rest = IsTrue told → left ≡ rest
MayCome Closed told left rest = Unit {0}

-- this is what the reduction has left to read, where this is what comes: no frame ever, once there was none, and what stands behind the bytes that say so, where that is told; and nothing, once the end has come
abbrev pub IsLeft : Bool → Inbox → Bytes → Bytes → Type 0
IsLeft told Open rest input = input ≡ rest
IsLeft told Broken rest input = (n : ℕ) × (got : ℕ) × (next_frame input ≡ Bad n got) × (IsTrue told → rest ≡ drop got input)
IsLeft told Closed rest input = input ≡ []

-- where the end has come, nothing is left, if that is told
abbrev pub NoneLeft : Bool → Inbox → Bytes → Type 0
NoneLeft told Open left = Unit {0}
NoneLeft told Broken left = Unit {0}
NoneLeft told Closed left = IsTrue told → left ≡ []

-- what has come is what stands first in this input; where a read failed, some of its bytes are gone
abbrev pub Heard : Bool → Incoming → Inbox → Bytes → Bytes → Type 0
Heard told (incoming.Frame s) inbox rest input = (left : Bytes) × (next_frame input ≡ Whole s.0 left) × IsLeft told inbox rest left
Heard told incoming.End inbox rest input = (next_frame input ≡ AtEnd) × IsLeft told inbox rest input
Heard told incoming.Bad inbox rest input = (n : ℕ) × (got : ℕ) × (next_frame input ≡ Bad n got) × IsLeft told inbox rest input
Heard told incoming.Failed inbox rest input = IsTrue told → (taken : Bytes) × (input ≡ taken ++ rest)
Heard told incoming.Memory inbox rest input = Unit {0}

-- whatever comes later, something comes now of which this holds
abbrev pub Comes : Bool → Inbox → Bytes → Inbox → Bytes → (Bytes → Bytes → Type 0) → Type 0
Comes told old left new now P = (rest : Bytes) → MayCome new told now rest → (before : Bytes) × MayCome old told left before × ((input : Bytes) → IsLeft told old before input → P rest input)

-- something is read where frames may come, and else nothing
abbrev pub read_in : {A : Type 0} → Inbox → A → List A
read_in Open here = here ∷ []
read_in Broken here = []
read_in Closed here = []
