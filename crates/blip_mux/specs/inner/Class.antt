-- The two classes of messages: requests and replies.
use Rattle.std.specs.Prelude.{ℕ, Bool, false, ◌==◌, Option}
use Rattle.std.specs.BTreeMap.{BTreeMap, get}
use Rattle.std.specs.Ordering.{nat_cmp}
use Rattle.blip_frame.specs.declared.frame.Kind.{Kind}
use Rattle.blip_frame.specs.declared.frame.Kind.TheVariants as kinds
use Rattle.blip_mux.specs.declared.class.Class.{Class}
use Rattle.blip_mux.specs.declared.class.Class.TheVariants as classes
use Rattle.blip_mux.specs.Joining.{is_request, is_reply}

-- the class of a kind; of an acknowledgement, that of the messages that it is of
abbrev pub class_of : Kind → Class
class_of kinds.Msg = classes.Request
class_of kinds.Rpy = classes.Reply
class_of kinds.Err = classes.Reply
class_of kinds.AckMsg = classes.Request
class_of kinds.AckRpy = classes.Reply

-- whether messages of a kind are of a class
abbrev pub is_in : Class → Kind → Bool
is_in classes.Request kind = is_request kind
is_in classes.Reply kind = is_reply kind

-- whether two numbers, each in its class, are the same
abbrev pub is_same : Class → ℕ → Class → ℕ → Bool
is_same classes.Request n classes.Request m = n == m
is_same classes.Request n classes.Reply m = false
is_same classes.Reply n classes.Request m = false
is_same classes.Reply n classes.Reply m = n == m

-- what stands at a number of a class, where there is a map for each
abbrev pub stamp_at : Class → ℕ → BTreeMap ℕ ℕ → BTreeMap ℕ ℕ → Option ℕ
stamp_at classes.Request number requests replies = get nat_cmp requests number
stamp_at classes.Reply number requests replies = get nat_cmp replies number
