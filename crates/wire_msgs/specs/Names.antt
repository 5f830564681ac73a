-- The names of fields and operations, and the fields of each operation.
use Rattle.std.specs.Prelude.{ℕ, List, [], ◌∷◌, Option, codes}
use Rattle.std.specs.List.{find}
use Rattle.std.specs.Str.{bytes_eq}
use Rattle.wire_msgs.specs.declared.field.Field.{Field}
use Rattle.wire_msgs.specs.declared.field.Field.TheVariants as field
use Rattle.wire_msgs.specs.declared.operation.Operation.{Operation}
use Rattle.wire_msgs.specs.declared.operation.Operation.TheVariants as operation

unfoldable pub name : Field → List ℕ
name field.Op = codes "op"
name field.Seen = codes "seen"
name field.Key = codes "key"
name field.Attempt = codes "attempt"
name field.WhoHas = codes "who_has"
name field.Keys = codes "keys"
name field.Holder = codes "holder"
name field.Copy = codes "copy"
name field.Yes = codes "yes"
name field.Holders = codes "holders"
name field.Blame = codes "blame"
name field.Ask = codes "ask"
name field.Found = codes "found"
name field.Role = codes "role"
name field.Id = codes "id"

unfoldable pub op_name : Operation → List ℕ
op_name operation.ComputeTask = codes "compute-task"
op_name operation.FreeKeys = codes "free-keys"
op_name operation.StealRequest = codes "steal-request"
op_name operation.RemoveReplicas = codes "remove-replicas"
op_name operation.AcquireReplicas = codes "acquire-replicas"
op_name operation.RefreshWhoHas = codes "refresh-who-has"
op_name operation.TaskFinished = codes "task-finished"
op_name operation.TaskErred = codes "task-erred"
op_name operation.AddKeys = codes "add-keys"
op_name operation.ReleaseWorkerData = codes "release-worker-data"
op_name operation.MissingData = codes "missing-data"
op_name operation.RequestRefreshWhoHas = codes "request-refresh-who-has"
op_name operation.StealResponse = codes "steal-response"
op_name operation.KeyInMemory = codes "key-in-memory"
op_name operation.LostData = codes "lost-data"
op_name operation.ClientTaskErred = codes "client-task-erred"
op_name operation.Want = codes "want"
op_name operation.Release = codes "release"
op_name operation.Missing = codes "missing"
op_name operation.GetData = codes "get-data"
op_name operation.Data = codes "data"
op_name operation.Hello = codes "hello"

-- every operation
unfoldable pub operations : List Operation
operations = operation.ComputeTask ∷ operation.FreeKeys ∷ operation.StealRequest ∷ operation.RemoveReplicas ∷ operation.AcquireReplicas ∷ operation.RefreshWhoHas ∷ operation.TaskFinished ∷ operation.TaskErred ∷ operation.AddKeys ∷ operation.ReleaseWorkerData ∷ operation.MissingData ∷ operation.RequestRefreshWhoHas ∷ operation.StealResponse ∷ operation.KeyInMemory ∷ operation.LostData ∷ operation.ClientTaskErred ∷ operation.Want ∷ operation.Release ∷ operation.Missing ∷ operation.GetData ∷ operation.Data ∷ operation.Hello ∷ []

-- the operation of this name
unfoldable pub operation_named : List ℕ → Option Operation
operation_named t = find (λ o. bytes_eq t (op_name o)) operations

-- the fields of a message, in the order in which they are written
unfoldable pub fields_of : Operation → List Field
fields_of operation.ComputeTask = field.Op ∷ field.Key ∷ field.Attempt ∷ field.WhoHas ∷ []
fields_of operation.FreeKeys = field.Op ∷ field.Keys ∷ []
fields_of operation.StealRequest = field.Op ∷ field.Key ∷ field.Attempt ∷ []
fields_of operation.RemoveReplicas = field.Op ∷ field.Keys ∷ []
fields_of operation.AcquireReplicas = field.Op ∷ field.WhoHas ∷ []
fields_of operation.RefreshWhoHas = field.Op ∷ field.WhoHas ∷ []
fields_of operation.TaskFinished = field.Op ∷ field.Seen ∷ field.Key ∷ field.Attempt ∷ []
fields_of operation.TaskErred = field.Op ∷ field.Seen ∷ field.Key ∷ field.Attempt ∷ []
fields_of operation.AddKeys = field.Op ∷ field.Seen ∷ field.Keys ∷ []
fields_of operation.ReleaseWorkerData = field.Op ∷ field.Seen ∷ field.Key ∷ []
fields_of operation.MissingData = field.Op ∷ field.Seen ∷ field.Key ∷ field.Holder ∷ field.Copy ∷ []
fields_of operation.RequestRefreshWhoHas = field.Op ∷ field.Seen ∷ field.Key ∷ []
fields_of operation.StealResponse = field.Op ∷ field.Seen ∷ field.Key ∷ field.Attempt ∷ field.Yes ∷ []
fields_of operation.KeyInMemory = field.Op ∷ field.Key ∷ field.Holders ∷ []
fields_of operation.LostData = field.Op ∷ field.Key ∷ []
fields_of operation.ClientTaskErred = field.Op ∷ field.Key ∷ field.Blame ∷ []
fields_of operation.Want = field.Op ∷ field.Keys ∷ []
fields_of operation.Release = field.Op ∷ field.Keys ∷ []
fields_of operation.Missing = field.Op ∷ field.Key ∷ field.Holder ∷ field.Copy ∷ []
fields_of operation.GetData = field.Op ∷ field.Ask ∷ field.Keys ∷ []
fields_of operation.Data = field.Op ∷ field.Ask ∷ field.Found ∷ []
fields_of operation.Hello = field.Op ∷ field.Role ∷ field.Id ∷ []
