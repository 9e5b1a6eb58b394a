-- The methods that are called: gRPC's test.proto; and the fields that open their calls.
use Rattle.std.specs.Prelude.{ℕ, List, [], ◌∷◌, ◌++◌, Some, None, codes}
use Rattle.lists.specs.declared.field.Field.{Field}
use Rattle.callhead.specs.Fields.{field_of}
use Rattle.callhead.specs.RequestFields.{request_fields}
use Rattle.cases.specs.declared.method.Method.{Method}
use Rattle.cases.specs.declared.method.Method.TheVariants.{
  EmptyCall,
  UnaryCall,
  CacheableUnaryCall,
  StreamingOutputCall,
  StreamingInputCall,
  FullDuplexCall,
  UnimplementedCall,
  UnimplementedService,
}
use Rattle.cases.specs.declared.method.HeadExtra.{HeadExtra}
use Rattle.cases.specs.declared.method.HeadExtra.TheVariants.{
  Nothing,
  Echoes,
  OneMillisecond,
  UserAddress,
}

abbrev pub path_of : Method → List ℕ
path_of EmptyCall = codes "/grpc.testing.TestService/EmptyCall"
path_of UnaryCall = codes "/grpc.testing.TestService/UnaryCall"
path_of CacheableUnaryCall = codes "/grpc.testing.TestService/CacheableUnaryCall"
path_of StreamingOutputCall = codes "/grpc.testing.TestService/StreamingOutputCall"
path_of StreamingInputCall = codes "/grpc.testing.TestService/StreamingInputCall"
path_of FullDuplexCall = codes "/grpc.testing.TestService/FullDuplexCall"
path_of UnimplementedCall = codes "/grpc.testing.TestService/UnimplementedCall"
path_of UnimplementedService = codes "/grpc.testing.UnimplementedService/UnimplementedCall"

abbrev pub fields_of : Method → HeadExtra → List Field
fields_of method Nothing = request_fields (path_of method) None [] []
fields_of method Echoes =
    request_fields (path_of method) None (codes "test_initial_metadata_value" ∷ [])
    ((0xAB ∷ 0xAB ∷ 0xAB ∷ []) ∷ [])
fields_of method OneMillisecond = request_fields (path_of method) (Some (codes "1m")) [] []
fields_of method UserAddress =
    request_fields (path_of method) None [] []
    ++ field_of (codes "x-user-ip") (codes "1.2.3.4") ∷ []
